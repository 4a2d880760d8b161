use Rattle.std.proofs.Common.{◌≡◌, Some, map, length}
use Rattle.hd_task.specs.Plans.{IsStateOf, node, exec_from, exec}
use Rattle.hplan.specs.PlanText.{goes_from, goes_through}
use Rattle.hplan.proofs.cost.cost_of.Given as goal

abbrev pub invariant-loop-rest : goal.invariant-loop-rest
invariant-loop-rest l = record {
  of_task : IsStateOf l.task l.state;
  ends : exec_from l.task (Some (node l.state l.cost)) (map (λ a. a.0) l.rest) ≡ exec l.task l.plan;
  through : goes_from l.task (Some (node l.state l.cost)) (map (λ a. a.0) l.rest) ≡ goes_through l.task l.plan;
}

abbrev pub decreases-loop-rest : goal.decreases-loop-rest
decreases-loop-rest l = length l.rest
