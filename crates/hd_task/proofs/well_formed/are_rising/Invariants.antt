use Rattle.std.proofs.Common.{◌≡◌, map, length}
use Rattle.hd_task.specs.declared.effect.Effect.{Effect}
use Rattle.hd_task.specs.WellFormed.{is_rising}
use Rattle.hd_task.proofs.well_formed.are_rising.Given as goal

-- what is left rises exactly if the whole does
abbrev pub invariant-loop-left : goal.invariant-loop-left
invariant-loop-left l =
    is_rising (map (λ (e : Effect). e.fluent) l.effects) ≡ is_rising (map (λ (e : Effect). e.fluent) l.left)

abbrev pub decreases-loop-left : goal.decreases-loop-left
decreases-loop-left l = length l.left
