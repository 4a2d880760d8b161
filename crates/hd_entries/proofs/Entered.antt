-- One entry more: where its plan leads, and where the successors that it posts do.
use Rattle.std.proofs.Common.{◌≡◌, ℕ, ◌+◌, ◌<◌, true, false, ◌||◌, Option, Some, List, [], ◌∷◌, ◌++◌, map, length, get_or, refl, sym, ap, ap₂, ◌∙◌, arith, append-nil}
use Rattle.std.specs.Prelude.{option_and_then}
use Rattle.std.specs.List.{AllByRecursion}
use Rattle.std.proofs.lemmas.List.{map-append}
use Rattle.hd_base.proofs.Members.{AllByRecursion-from_contains}
use Rattle.hd_base.proofs.Truth.{or-false}
use Rattle.hd_task.specs.declared.task.Task.{Task}
use Rattle.hd_task.specs.declared.plan.Kid.{Kid}
use Rattle.hd_task.specs.declared.plan.TheConstants.{ROOT_PARENT}
use Rattle.hd_task.specs.Plans.{Node, exec}
use Rattle.hd_task.specs.Expansions.{applicable_at, children, followed_by, generated}
use Rattle.hd_task.specs.Entries.{plan_of}
use Rattle.hd_task.proofs.Runs.{exec-push}
use Rattle.hd_node.specs.Children.{ChildView, children_at}
use Rattle.hd_node.specs.declared.batch.Outcome.TheVariants.{Expanded}
use Rattle.hd_node.proofs.Steps.{IsStep, action_of, children-actions, children_step}
use Rattle.hd_entries.specs.Kids.{posted_by}
use Rattle.hd_entries.specs.Settling.{BookState, IsBookKept, expansions, is_marked, is_posted, is_settled_by, knows_parent, node_of, place_of, refusal_by}
use Rattle.hd_entries.specs.Holding.{plans_at}
use Rattle.hd_entries.specs.Resuming.{IsEntered, child_node, entry_nodes, posted_nodes, resumed_state}
use Rattle.hd_entries.specs.Waiting.{IsExpansionTo}
use Rattle.hd_entries.proofs.Accepting.{accepted, count-entries, stands}
use Rattle.hd_entries.proofs.Again.{kept_now, plans}
use Rattle.hd_entries.proofs.Entering.{goes_on}
use Rattle.hd_entries.proofs.Naming as naming

-- ---- the posted successors lead where the generated plans do

through : (t : Task) (expanded : List (List ℕ)) (ks : List Kid) → map (λ k. option_and_then (exec t) (plan_of expanded k)) ks ≡ map (option_and_then (exec t)) (map (plan_of expanded) ks)
through t expanded [] = refl
through t expanded (k ∷ ks) = ap (λ (rs : List (Option Node)). option_and_then (exec t) (plan_of expanded k) ∷ rs) (through t expanded ks)

through_some : (t : Task) (ps : List (List ℕ)) → map (option_and_then (exec t)) (map Some ps) ≡ map (exec t) ps
through_some t [] = refl
through_some t (p ∷ ps) = ap (λ (rs : List (Option Node)). exec t p ∷ rs) (through_some t ps)

pub posted_nodes_are : (b : BookState) → IsBookKept b → posted_nodes b ≡ map (exec b.task) (generated b.task (expansions b))
posted_nodes_are b kept =
    let t = b.task in
    let E = expansions b in
    let count = count-entries b kept in
    let short = kept.short in
    through t E (posted_by t E)
    ∙ (ap (map (option_and_then (exec t))) (naming.posted_named t E (omega (arith, count, short))) ∙ through_some t (generated t E))

-- ---- the plans that an expansion generates lead to its children

children_lead : (t : Task) (p : List ℕ) (r : Node) → exec t p ≡ Some r → (cs : List ChildView) → AllByRecursion (IsStep t r) cs → map (exec t) (map (followed_by p) (map action_of cs)) ≡ map child_node cs
children_lead t p r is [] all = refl
children_lead t p r is (c ∷ cs) all =
    ap₂ (λ (x : Option Node) (xs : List (Option Node)). x ∷ xs) (exec-push t p r c.action is ∙ all.0.leads) (children_lead t p r is cs all.1)

generated_lead : (t : Task) (p : List ℕ) (r : Node) → exec t p ≡ Some r → map (exec t) (children t p) ≡ map child_node (children_at t r)
generated_lead t p r is =
    let cs = children_at t r in
    ap (λ (o : Option Node). map (exec t) (map (followed_by p) (applicable_at t o))) is
    ∙ (ap (λ (actions : List ℕ). map (exec t) (map (followed_by p) actions)) (sym (children-actions t r))
    ∙ children_lead t p r is cs (AllByRecursion-from_contains (IsStep t r) cs (children_step t r)))

-- ---- a search that goes on by the expansion of a successor has it as an entry

pub entered_is :
    (t : Task) (before : List Kid) (kept : IsBookKept (resumed_state t before)) (k : Kid) (room : length before + 1 < ROOT_PARENT) (next : BookState)
    → IsExpansionTo (resumed_state t before) k next → (r : Node) → node_of (resumed_state t before) k ≡ Some r → IsEntered (resumed_state t before) r (children_at t r) next
entered_is t before kept k room next x r leads =
    let b = resumed_state t before in
    let e = x.by in
    let E = plans_at before in
    let a = accepted (knows_parent b e.kid) (is_posted b e.kid) (is_marked b e.kid || is_settled_by [] e.kid) (refusal_by b [] (Expanded e)) x.free in
    let posted : is_posted b k ≡ true = ap (is_posted b) (sym x.kid) ∙ a.is_posted in
    let free : is_marked b k ≡ false = ap (is_marked b) (sym x.kid) ∙ (sym (or-false (is_marked b e.kid)) ∙ a.is_open) in
    let p = get_or (generated t E) (place_of b k) [] in
    let after = before ++ k ∷ [] in
    let executes : exec t p ≡ Some r = sym (ap (option_and_then (exec t)) (stands b kept k posted).plan) ∙ leads in
    let now : next ≡ resumed_state t after = goes_on t before kept k room next x in
    let named : plans_at after ≡ E ++ p ∷ [] = plans t before kept k posted free room in
    record {
      leads =
          ap entry_nodes now
          ∙ (ap (map (exec t)) named
          ∙ (map-append (exec t) E (p ∷ []) ∙ ap (λ (o : Option Node). map (exec t) E ++ o ∷ []) executes));
      posts =
          ap posted_nodes now
          ∙ (posted_nodes_are (resumed_state t after) (kept_now t before kept k posted free room)
          ∙ (ap (λ (ps : List (List ℕ)). map (exec t) (generated t ps)) named
          ∙ (ap (map (exec t)) (naming.generated-append t E (p ∷ []))
          ∙ (map-append (exec t) (generated t E) (children t p ++ [])
          ∙ ap₂ (λ (xs ys : List (Option Node)). xs ++ ys) (sym (posted_nodes_are b kept)) (ap (map (exec t)) (append-nil (children t p)) ∙ generated_lead t p r executes)))));
    }
