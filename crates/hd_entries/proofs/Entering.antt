-- Entries that are made again, one after the other.
use Rattle.std.proofs.Common.{◌≡◌, ℕ, zero, suc, ◌+◌, ◌<◌, ◌==◌, Bool, true, false, cond, not, ◌||◌, Option, Some, None, List, [], ◌∷◌, ◌++◌, map, set, replicate, length, get_or, slice_get, refl, sym, ap, ap₂, ◌∙◌, true≢false}
use Rattle.std.specs.Prelude.{option_and_then}
use Rattle.std.proofs.lemmas.Bool.{and_from, eq-eqb}
use Rattle.std.proofs.lemmas.Option.{none-some}
use Rattle.std.proofs.lemmas.List.{length-map}
use Rattle.hd_base.proofs.Truth.{or-false}
use Rattle.hd_task.specs.declared.task.Task.{Task}
use Rattle.hd_task.specs.declared.state.State.{State}
use Rattle.hd_task.specs.declared.plan.Kid.{Kid}
use Rattle.hd_task.specs.declared.plan.TheConstants.{ROOT_PARENT, ROOT_ACTION}
use Rattle.hd_task.specs.Plans.{Node, exec, node}
use Rattle.hd_task.specs.Expansions.{applicable_at, generated}
use Rattle.hd_task.specs.Entries.{plan_from, plan_of}
use Rattle.hd_node.specs.Children.{ChildView, children_at}
use Rattle.hd_node.specs.Expansion.{ExpansionView}
use Rattle.hd_node.specs.declared.batch.Outcome.TheVariants.{Expanded}
use Rattle.hd_node.proofs.Steps.{children-actions}
use Rattle.hd_entries.specs.declared.refusal.Refusal.TheVariants.{UnknownParent, NotAKid, SettledBefore, StateDiffers}
use Rattle.hd_entries.specs.Kids.{posted_by}
use Rattle.hd_entries.specs.Settling.{BookState, IsBookKept, knows_parent, place_of, is_posted, is_marked, node_of, same_state, is_node, refusal_by, is_settled_by, refusal_of}
use Rattle.hd_entries.specs.Holding.{plans_at}
use Rattle.hd_entries.specs.Resuming.{has, resumed_state}
use Rattle.hd_entries.specs.Waiting.{IsAgain, IsExpansionTo}
use Rattle.hd_entries.proofs.Accepting.{accepted, is_node-true, passes, stands}
use Rattle.hd_entries.proofs.Again.{marks_now}
use Rattle.hd_entries.proofs.Same.{same_state-refl}

-- ---- successors lead where they led

same_at : (expanded more : List (List ℕ)) (n : ℕ) (p : List ℕ) → slice_get expanded n ≡ Some p → slice_get (expanded ++ more) n ≡ Some p
same_at [] more n p e = absurd (none-some p e)
same_at (q ∷ expanded) more zero p e = e
same_at (q ∷ expanded) more (suc n) p e = same_at expanded more n p e

from_parent : (n : ℕ) (expanded more : List (List ℕ)) (o : Option (List ℕ)) (a : ℕ) (p : List ℕ) → slice_get expanded n ≡ o → plan_from o a ≡ Some p → plan_from (slice_get (expanded ++ more) n) a ≡ Some p
from_parent n expanded more None a p is e = absurd (none-some p e)
from_parent n expanded more (Some q) a p is e = ap (λ (o : Option (List ℕ)). plan_from o a) (same_at expanded more n q is) ∙ e

pub plan_of-grows : (expanded more : List (List ℕ)) (k : Kid) (p : List ℕ) → plan_of expanded k ≡ Some p → plan_of (expanded ++ more) k ≡ Some p
plan_of-grows expanded more k p e =
    elim (k.parent == ROOT_PARENT) as (λ b. cond b (cond (k.action == ROOT_ACTION) (Some []) None) (plan_from (slice_get expanded k.parent) k.action) ≡ Some p → cond b (cond (k.action == ROOT_ACTION) (Some []) None) (plan_from (slice_get (expanded ++ more) k.parent) k.action) ≡ Some p) [
      | true ↦ λ e. e
      | false ↦ λ e. from_parent k.parent expanded more (slice_get expanded k.parent) k.action p refl e
    ] e

-- ---- a search that was made again

pub again_from : (t : Task) (entries : List Kid) (b : BookState) → b ≡ resumed_state t entries → IsAgain b
again_from t entries b e = e ∙ ap₂ resumed_state (sym (ap (λ (x : BookState). x.task) e)) (sym (ap (λ (x : BookState). x.entries) e))

-- a search goes on by the expansion of a successor
pub goes_on :
    (t : Task) (before : List Kid) (kept : IsBookKept (resumed_state t before)) (k : Kid) (room : length before + 1 < ROOT_PARENT) (next : BookState)
    → IsExpansionTo (resumed_state t before) k next → next ≡ resumed_state t (before ++ k ∷ [])
goes_on t before kept k room next x =
    let b = resumed_state t before in
    let e = x.by in
    let E = plans_at before in
    let P = posted_by t E in
    let a = accepted (knows_parent b e.kid) (is_posted b e.kid) (is_marked b e.kid || is_settled_by [] e.kid) (refusal_by b [] (Expanded e)) x.free in
    let posted : is_posted b k ≡ true = ap (is_posted b) (sym x.kid) ∙ a.is_posted in
    let free : is_marked b k ≡ false = ap (is_marked b) (sym x.kid) ∙ (sym (or-false (is_marked b e.kid)) ∙ a.is_open) in
    let place = place_of b k in
    let p = get_or (generated t E) place [] in
    let at = stands b kept k posted in
    let r = node e.state e.cost in
    let leads : node_of b e.kid ≡ Some r = is_node-true (node_of b e.kid) e.state e.cost (passes (is_node (node_of b e.kid) e.state e.cost) StateDiffers a.nothing) in
    let executes : exec t p ≡ Some r = ap (option_and_then (exec t)) (sym at.plan) ∙ (ap (node_of b) (sym x.kid) ∙ leads) in
    let children : e.children ≡ children_at t r = e.all_children ∙ ap (λ (u : Task). children_at u r) x.own in
    let actions : map (λ (c : ChildView). c.action) e.children ≡ applicable_at t (exec t p) =
    ap (map (λ (c : ChildView). c.action)) children ∙ (children-actions t r ∙ ap (applicable_at t) (sym executes))
    in
    let as_many : length e.children ≡ length (applicable_at t (exec t p)) = sym (length-map e.children (λ (c : ChildView). c.action)) ∙ ap length actions in
    let marks : set (map (has before) P) (place_of b e.kid) true ++ replicate (length e.children) false ≡ map (has (before ++ k ∷ [])) (posted_by t (plans_at (before ++ k ∷ []))) =
    ap₂ (λ (q : Kid) (n : ℕ). set (map (has before) P) (place_of b q) true ++ replicate n false) x.kid as_many ∙ marks_now t before kept k posted free room
    in
    x.state ∙ ap₂ (λ (q : Kid) (ms : List Bool). let s : BookState = record { task = t; entries = before ++ q ∷ []; marks = ms } in s) x.kid marks

-- ---- the expansion of a successor that is open is not refused

is_node-itself : (s : State) (cost : ℕ) → is_node (Some (node s cost)) s cost ≡ true
is_node-itself s cost = and_from (same_state s s) (cost == cost) (same_state-refl s) (eq-eqb cost cost refl)

right_one : (known posted settled : Bool) (o : Option Node) (s : State) (cost : ℕ) → known ≡ true → posted ≡ true → settled ≡ false → o ≡ Some (node s cost)
    → cond (not known) (Some UnknownParent) (cond (not posted) (Some NotAKid) (cond (settled || false) (Some SettledBefore) (cond (is_node o s cost) None (Some StateDiffers)))) ≡ None
right_one false posted settled o s cost k p m e = absurd (true≢false (sym k))
right_one true false settled o s cost k p m e = absurd (true≢false (sym p))
right_one true true true o s cost k p m e = absurd (true≢false m)
right_one true true false o s cost k p m e =
    ap (λ (r : Option Node). cond (is_node r s cost) None (Some StateDiffers)) e ∙ ap (λ (b : Bool). cond b None (Some StateDiffers)) (is_node-itself s cost)

pub expansion_free : (b : BookState) (e : ExpansionView) → knows_parent b e.kid ≡ true → is_posted b e.kid ≡ true → is_marked b e.kid ≡ false → node_of b e.kid ≡ Some (node e.state e.cost) → refusal_of b [] (Expanded e) ≡ None
expansion_free b e known posted unmarked leads = right_one (knows_parent b e.kid) (is_posted b e.kid) (is_marked b e.kid) (node_of b e.kid) e.state e.cost known posted unmarked leads
