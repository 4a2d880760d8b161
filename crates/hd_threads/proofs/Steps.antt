-- A group that goes out, and the log that it is of.
use Rattle.std.proofs.Common.{◌≡◌, ℕ, ◌-◌, Option, Some, None, List, ◌++◌, length, drop, refl, sym, ap, subst, ◌∙◌, append_assoc}
use Rattle.std.specs.Prelude.{option_map, Result, Ok, Err, IfOk}
use Rattle.std.specs.declared.ops.Range.{Range}
use Rattle.std.proofs.lemmas.List.{take-append-drop}
use Rattle.std.proofs.lemmas.Option.{none-some, same_Some}
use Rattle.std.proofs.Math.Seq.{drop-append_seam}
use Rattle.hd_task.specs.declared.plan.Kid.{Kid}
use Rattle.hd_base.specs.Lists.{BeginsWith}
use Rattle.hd_book.specs.Queue.{QueueView, group_next}
use Rattle.hd_journal.specs.Group.{GroupView}
use Rattle.hd_book.specs.View.{BookView}
use Rattle.hd_book.specs.Steps.{after_take}
use Rattle.hd_book.specs.Groups.{entries_between, group_of, next_group}
use Rattle.hd_book.proofs.Between.{group_starts}
use Rattle.hd_threads.specs.Shared.{GoesOn, IsGroupAt}
use Rattle.hd_threads.proofs.Begins.{begins_same}

-- the entries between two numbers stand in the log
between_has : (entries : List Kid) (first end : ℕ) → BeginsWith (drop first entries) (entries_between entries first end)
between_has entries first end = (drop (end - first) (drop first entries), sym (take-append-drop (end - first) (drop first entries)))

range_at : (entries : List Kid) (first : ℕ) (r : Range ℕ) → r.start ≡ first → IsGroupAt entries first (group_of entries r)
range_at entries first r e = record {
  begins = e;
  has = subst (λ n. BeginsWith (drop n entries) (entries_between entries r.start r.end)) e (between_has entries r.start r.end);
}

-- the group that goes out next begins after what is acknowledged
pub next_at : (entries : List Kid) (q : QueueView) (g : GroupView) → Some g ≡ option_map (group_of entries) (group_next q) → IsGroupAt entries q.acknowledged g
next_at entries q g e =
    elim (group_next q) as (λ o. group_next q ≡ o → Some g ≡ option_map (group_of entries) o → IsGroupAt entries q.acknowledged g) [
      | None ↦ λ _ e. absurd (none-some g (sym e))
      | Some r ↦ λ is e.
          subst (IsGroupAt entries q.acknowledged) (sym (same_Some g (group_of entries r) e))
          (range_at entries q.acknowledged r (group_starts q r (sym is)))
    ] refl e

-- a list is a beginning of a log, which has a group after it: with the group it is a beginning too
pub begins_with_group : (log kids more : List Kid) (first : ℕ) → first ≡ length kids → BeginsWith log kids → BeginsWith (drop first log) more → BeginsWith log (kids ++ more)
begins_with_group log kids more first at is has =
    let rest : drop first log ≡ is.0 = ap (λ n. drop n log) at ∙ (ap (drop (length kids)) is.1 ∙ drop-append_seam kids is.0) in
    (has.0, is.1 ∙ (ap (λ l. kids ++ l) (sym rest ∙ has.1) ∙ sym (append_assoc kids more has.0)))

-- what went out of a book is such a group, where so many entries are acknowledged
pub taken_at : {X : Type 0} (r : Result GroupView X) (b b' : BookView) (n : ℕ)
    → n ≡ b.batches.queue.acknowledged → b' ≡ after_take b → IfOk r (λ g. Some g ≡ next_group b) → IfOk r (IsGroupAt b'.state.entries n)
taken_at (Ok g) b b' n e after is =
    subst (λ (x : BookView). IsGroupAt x.state.entries n g) (sym after)
    (subst (λ (m : ℕ). IsGroupAt b.state.entries m g) (sym e) (next_at b.state.entries b.batches.queue g is))
taken_at (Err x) b b' n e after is = tt

-- a book whose log is as before
pub goes_on_same : (b b' : BookView) → b'.state.task ≡ b.state.task → b'.state.entries ≡ b.state.entries → GoesOn b b'
goes_on_same b b' task entries = record { task = task; begins = begins_same b'.state.entries b.state.entries entries }
