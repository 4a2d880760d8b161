use Rattle.std.proofs.Common.{◌≡◌, ◌≤◌, length, filter, take}
use Rattle.hd_lifted.specs.Questions.{is_paid}
use Rattle.hd_images.proofs.costs.count_costs.Given as goal

abbrev pub invariant-loop-effect : goal.invariant-loop-effect
invariant-loop-effect l = (l.count ≤ l.effect-index) × (l.count ≡ length (filter is_paid (take l.effect-index l.effects)))
