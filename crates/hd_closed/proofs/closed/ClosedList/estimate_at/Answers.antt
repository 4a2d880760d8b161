use Rattle.std.proofs.Common.{ℕ, ◌+◌, ◌<◌, List, length, subst, sym}
use Rattle.std.specs.List.{AllByRecursion}
use Rattle.std.specs.Prelude.{slice_range}
use Rattle.hd_closed.specs.Closed.{ClosedView}
use Rattle.hd_closed.proofs.Picking.{all_ranged}
use Rattle.hd_closed.proofs.closed.ClosedList.estimate_at.Goals as goal

pub estimate_group-requires-clause-within : goal.estimate_group-requires-clause-within
estimate_group-requires-clause-within c =
    let first = c.loop-unknown.first in
    let end = first + c.min.result in
    let xs = c.as_slice.result.now in
    let states = c.args.self.now.states in
    subst (λ (v : ClosedView). AllByRecursion (λ k. k < length v.states) (slice_range xs first end)) (sym c.loop-unknown.invariant.same)
    (all_ranged (λ k. k < length states) xs first end
    (subst (λ (ys : List ℕ). AllByRecursion (λ k. k < length states) ys) (sym c.as_slice.ensures.value) c.in_ok-unknown.ensures))
