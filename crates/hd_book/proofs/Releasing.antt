-- What a batch releases is what its entries release, also once there are more.
use Rattle.std.proofs.Common.{◌≡◌, ℕ, ◌+◌, ◌-◌, ◌<◌, ◌≤◌, Bool, true, false, cond, not, Option, Some, None, List, [], ◌∷◌, ◌++◌, map, take, drop, length, refl, sym, ap, ap₂, ◌∙◌, subst, arith, length-append, length-drop}
use Rattle.std.specs.List.{AllByRecursion}
use Rattle.std.proofs.Math.Seq.{drop-append_seam}
use Rattle.std.proofs.lemmas.List.{take_all, take-append-le, drop-append-le}
use Rattle.hd_base.proofs.Lists.{cons_parts}
use Rattle.hd_task.specs.declared.task.Task.{Task}
use Rattle.hd_task.specs.declared.plan.TheConstants.{ROOT_PARENT}
use Rattle.hd_task.specs.Plans.{Node, exec, node}
use Rattle.hd_node.specs.Children.{ChildView, children_at}
use Rattle.hd_node.specs.Expansion.{ExpansionView}
use Rattle.hd_node.specs.declared.batch.Outcome.{Outcome}
use Rattle.hd_node.specs.declared.batch.Outcome.TheVariants.{Expanded, Duplicate, Bounded}
use Rattle.hd_entries.specs.declared.refusal.Refusal.{Refusal}
use Rattle.hd_entries.specs.declared.refusal.Refusal.TheVariants.{Full}
use Rattle.hd_entries.specs.Growing.{entered_by}
use Rattle.hd_entries.specs.Holding.{EntriesView, Released, released_from, released_by, node_at, plans_at}
use Rattle.hd_entries.specs.Refusing.{has_room, refusal_to}
use Rattle.hd_entries.specs.Settling.{BookState, IsBookKept, IsOutcomeOfTask, all_settled, entry_of, first_refusal}
use Rattle.hd_entries.proofs.Accepting.{count-entries, at_first, batch_follows}
use Rattle.hd_book.specs.declared.outgoing.Outgoing.{Outgoing}
use Rattle.hd_book.specs.Keeping.{IsOutgoingIn}
use Rattle.hd_book.specs.Releasing.{released_to, released_for, released_in}
use Rattle.hd_entries.specs.Releasing.{ParcelsView}

-- ---- what outcomes release

released_there : (t : Task) (n : ℕ) (e : ExpansionView) (o : Option Node) → e.task ≡ t → o ≡ Some (node e.state e.cost)
    → map (released_from n) e.children ≡ released_to t n o
released_there t n e o own is =
    ap (map (released_from n)) (e.all_children ∙ ap (λ (u : Task). children_at u (node e.state e.cost)) own) ∙ sym (ap (released_to t n) is)

-- outcomes release what the plans of their entries do, where these lead to their nodes
released_led : (t : Task) (n : ℕ) (outcomes : List Outcome) (more : List (List ℕ)) → AllByRecursion (IsOutcomeOfTask t) outcomes
    → map (exec t) more ≡ map (λ e. Some (node_at e)) (entered_by outcomes) → released_by n outcomes ≡ released_for t n more
released_led t n [] [] own leads = refl
released_led t n [] (p ∷ more) own leads = absurd (cc)
released_led t n (Expanded e ∷ outcomes) [] own leads = absurd (cc)
released_led t n (Expanded e ∷ outcomes) (p ∷ more) own leads =
    let parts = cons_parts (exec t p) (Some (node e.state e.cost)) (map (exec t) more) (map (λ x. Some (node_at x)) (entered_by outcomes)) leads in
    ap₂ (λ (xs ys : List Released). xs ++ ys) (released_there t n e (exec t p) own.0 parts.0) (released_led t (n + 1) outcomes more own.1 parts.1)
released_led t n (Duplicate k by ∷ outcomes) more own leads =
    ap (λ m. released_by m outcomes) (omega arith) ∙ released_led t n outcomes more own.1 leads
released_led t n (Bounded k h ∷ outcomes) more own leads =
    ap (λ m. released_by m outcomes) (omega arith) ∙ released_led t n outcomes more own.1 leads

-- ---- the plans of some entries

middle : {X : Type 0} (xs more : List X) (first end : ℕ) → first ≤ end → end ≤ length xs
    → take (end - first) (drop first (xs ++ more)) ≡ take (end - first) (drop first xs)
middle xs more first end order within =
    ap (take (end - first)) (drop-append-le first xs more (omega (arith, order, within)))
    ∙ take-append-le (end - first) (drop first xs) more (omega (arith, order, within, length-drop first xs))

last : {X : Type 0} (xs more : List X) (first end : ℕ) → first ≡ length xs → end ≡ length xs + length more
    → take (end - first) (drop first (xs ++ more)) ≡ more
last xs more first end from to =
    ap (λ n. take (end - first) (drop n (xs ++ more))) from
    ∙ (ap (take (end - first)) (drop-append_seam xs more) ∙ take_all (end - first) more (omega (arith, from, to)))

-- ---- a batch more

-- why a batch is refused, where there is room
refusal_first : (room : Bool) (first : Option Refusal) → cond (not room) (Some Full) first ≡ None → first ≡ None
refusal_first true first e = e
refusal_first false first e = absurd (cc)

-- the plans of a book's entries after a batch begin with those before it, and the batch releases
-- what the further ones do
pub record Goes (before after : BookState) (outcomes : List Outcome) : Type 0 where
  pub more : List (List ℕ)
  pub plans : plans_at after.entries ≡ plans_at before.entries ++ more
  pub old : length (plans_at before.entries) ≡ length before.entries
  pub all : length (plans_at after.entries) ≡ length after.entries
  pub kids : released_by (length before.entries) outcomes ≡ released_for before.task (length before.entries) more

pub batch_goes : (e : EntriesView) (outcomes : List Outcome) → IsBookKept e.state → AllByRecursion (IsOutcomeOfTask e.state.task) outcomes → refusal_to e outcomes ≡ None
    → length (all_settled e.state outcomes).entries < ROOT_PARENT → Goes e.state (all_settled e.state outcomes) outcomes
batch_goes e outcomes kept own free room =
    let b = e.state in
    let f =
    batch_follows b.task b.entries b.marks kept [] outcomes b.entries b.marks (at_first b.task b.entries b.marks kept)
    (refusal_first (has_room e outcomes) (first_refusal b [] outcomes) free) own room
    in
    record {
      more = f.more;
      plans = f.tail;
      old = count-entries b kept;
      all = count-entries _ f.kept;
      kids = released_led b.task (length b.entries) outcomes f.more own f.leads;
    }

-- the same, of a later book that has this state
pub goes_to : (e d : EntriesView) (outcomes : List Outcome) → d.state ≡ all_settled e.state outcomes → Goes e.state (all_settled e.state outcomes) outcomes
    → Goes e.state d.state outcomes
goes_to e d outcomes is goes = subst (λ (x : BookState). Goes e.state x outcomes) (sym is) goes

module _ (b d : BookState) (outcomes : List Outcome) (g : Goes b d outcomes) (same : d.task ≡ b.task) where
  -- what is out still releases what its entries release
  still_out : (o : Option (Outgoing ParcelsView)) → IsOutgoingIn b o → IsOutgoingIn d o
  still_out None out = tt
  still_out (Some o) out =
      let order = out.0 in
      let within = out.1 in
      let grown : length d.entries ≡ length b.entries + length g.more =
      sym g.all ∙ (ap length g.plans ∙ (length-append (plans_at b.entries) g.more ∙ ap (λ n. n + length g.more) g.old)) in
      let here : take (o.end - o.first) (drop o.first (plans_at d.entries)) ≡ take (o.end - o.first) (drop o.first (plans_at b.entries)) =
      ap (λ (ps : List (List ℕ)). take (o.end - o.first) (drop o.first ps)) g.plans
      ∙ middle (plans_at b.entries) g.more o.first o.end order (omega (arith, within, g.old)) in (
        order,
        omega (arith, within, grown),
        out.2
            ∙ ap₂ (λ (t : Task) (ps : List (List ℕ)). let p : ParcelsView = record { task = t; kids = released_for t o.first ps } in p) (sym same) (sym here),
      )

  pub all_still_out : (tickets : List (Option (Outgoing ParcelsView))) → AllByRecursion (IsOutgoingIn b) tickets → AllByRecursion (IsOutgoingIn d) tickets
  all_still_out [] out = tt
  all_still_out (o ∷ tickets) out = (still_out o out.0, all_still_out tickets out.1)

  -- the batch is out, and releases what its entries release
  pub batch_out : (o : Outgoing ParcelsView) → o.first ≡ length b.entries → o.end ≡ length d.entries
      → o.released ≡ record { task = b.task; kids = released_by (length b.entries) outcomes } → IsOutgoingIn d (Some o)
  batch_out o first end is =
      let grown : length d.entries ≡ length b.entries + length g.more =
      sym g.all ∙ (ap length g.plans ∙ (length-append (plans_at b.entries) g.more ∙ ap (λ n. n + length g.more) g.old)) in
      let here : take (o.end - o.first) (drop o.first (plans_at d.entries)) ≡ g.more =
      ap (λ (ps : List (List ℕ)). take (o.end - o.first) (drop o.first ps)) g.plans
      ∙ last (plans_at b.entries) g.more o.first o.end (omega (arith, first, g.old)) (omega (arith, end, grown, g.old)) in (
        omega (arith, first, end, grown),
        omega (arith, end),
        is
            ∙ (ap (λ (ks : List Released). let p : ParcelsView = record { task = b.task; kids = ks } in p)
            (g.kids ∙ (ap (λ n. released_for b.task n g.more) (sym first) ∙ ap (released_for b.task o.first) (sym here)))
            ∙ ap (λ (t : Task). let p : ParcelsView = record { task = t; kids = released_for t o.first (take (o.end - o.first) (drop o.first (plans_at d.entries))) } in p) (sym same)),
      )
