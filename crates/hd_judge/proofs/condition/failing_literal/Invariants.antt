use Rattle.std.proofs.Common.{◌≡◌, length}
use Rattle.hd_judge.specs.Tables.{reached_in}
use Rattle.hd_judge.specs.Reasons.{failing_literal}
use Rattle.hd_judge.proofs.condition.failing_literal.Given as goal

abbrev pub invariant-loop-rest : goal.invariant-loop-rest
invariant-loop-rest l =
    failing_literal (reached_in l.place).state.atoms l.objects l.said ≡ failing_literal (reached_in l.place).state.atoms l.objects l.rest

abbrev pub decreases-loop-rest : goal.decreases-loop-rest
decreases-loop-rest l = length l.rest
