use Rattle.hd_task.proofs.Runs.{exec-state}
use Rattle.hd_task.proofs.laws.plans_of_a_task_lead_to_its_states.Goals as goal

pub returns : goal.returns
returns c = exec-state
