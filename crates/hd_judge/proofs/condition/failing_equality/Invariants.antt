use Rattle.std.proofs.Common.{◌≡◌, length}
use Rattle.hd_judge.specs.Reasons.{failing_equality}
use Rattle.hd_judge.proofs.condition.failing_equality.Given as goal

abbrev pub invariant-loop-rest : goal.invariant-loop-rest
invariant-loop-rest l = failing_equality l.objects l.said ≡ failing_equality l.objects l.rest

abbrev pub decreases-loop-rest : goal.decreases-loop-rest
decreases-loop-rest l = length l.rest
