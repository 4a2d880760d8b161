use Rattle.std.proofs.Common.{refl}
use Rattle.hd_task.specs.Conditions.{holds, condition_departs}
use Rattle.hd_task.specs.Effects.{state_after, step_cost, effects_stay}
use Rattle.hd_task.specs.Plans.{step, step_by, start}
use Rattle.hd_task.specs.Departures.{goal_departs, action_departs}
use Rattle.hd_task.specs.Expansions.{applicable_at}
use Rattle.hd_task.proofs.examples.task_examples_compute.Goals as goal

pub returns : goal.returns
unfolding holds condition_departs state_after step_cost effects_stay step step_by start goal_departs action_departs applicable_at
returns c = record { executes = refl; generates = refl; bounds = refl; names = refl }
