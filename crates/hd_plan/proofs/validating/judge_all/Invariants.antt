use Rattle.std.proofs.Common.{◌≡◌, ◌+◌, length}
use Rattle.hd_lifted.specs.Steps.{Reached}
use Rattle.hd_judge.specs.declared.fault.PlanFault.{PlanFault}
use Rattle.hd_judge.specs.Tables.{reached_in}
use Rattle.hd_judge.specs.Way.{IsOnWay}
use Rattle.hd_plan.specs.Plans.{TellsFromBy, ClearsFromBy}
use Rattle.hd_plan.proofs.validating.judge_all.Given as goal

-- what is reported of the rest from here on is reported of the steps
abbrev pub invariant-loop-rest : goal.invariant-loop-rest
invariant-loop-rest l = record {
  numbered : l.number + length l.rest ≡ 1 + length l.steps;
  way : IsOnWay l.lookups (reached_in l.place);
  clears : (end : Reached) → ClearsFromBy l.lookups (reached_in l.place) l.number l.rest end → ClearsFromBy l.lookups (reached_in l.fn.place) 1 l.steps end;
  tells : (fault : PlanFault) → TellsFromBy l.lookups (reached_in l.place) l.number l.rest fault → TellsFromBy l.lookups (reached_in l.fn.place) 1 l.steps fault;
}

abbrev pub decreases-loop-rest : goal.decreases-loop-rest
decreases-loop-rest l = length l.rest
