use Rattle.std.proofs.Common.{sym, subst}
use Rattle.hd_lifted.specs.WellFormed.{HasDistinctNames}
use Rattle.hd_judge.specs.Fault.{StopsBy}
use Rattle.hd_plan.specs.Plans.{IsFirstFaultBy}
use Rattle.hd_plan.specs.Telling.{Tells}
use Rattle.hd_plan.proofs.Judged.{validated-no_fault, one_cost_by}
use Rattle.hd_plan.proofs.Refusing.{only_memory}
use Rattle.hd_plan.proofs.validating.validate.Goals as goal

pub returns-in-Err-clause-refusal : goal.returns-in-Err-clause-refusal
returns-in-Err-clause-refusal c =
    subst (λ t. Tells t c.args.steps.now c.error_of-error.result) c.task-task.ensures.task
    (c.error_of-error.ensures c.args.steps.now
    (subst (λ t. StopsBy (IsFirstFaultBy t c.args.steps.now) c.in-Err.stop) (sym c.task-task.ensures.task) c.in-Err.ensures.tells))

pub returns-in-Err-clause-valid_plan : goal.returns-in-Err-clause-valid_plan
returns-in-Err-clause-valid_plan c cost valid =
    only_memory c.args.checked.now c.args.steps.now cost c.error_of-error.result (subst HasDistinctNames c.task-task.ensures.task c.task-task.ensures.names)
    (returns-in-Err-clause-refusal c) valid

pub returns-in-Err-clause-faulty_plan : goal.returns-in-Err-clause-faulty_plan
returns-in-Err-clause-faulty_plan c fault first = returns-in-Err-clause-refusal c

pub returns-in-Ok-clause-valid_plan : goal.returns-in-Ok-clause-valid_plan
returns-in-Ok-clause-valid_plan c cost valid =
    one_cost_by c.args.checked.now c.args.steps.now c.in-Ok.cost cost (subst HasDistinctNames c.task-task.ensures.task c.task-task.ensures.names)
    c.in-Ok.ensures.valid valid

pub returns-in-Ok-clause-faulty_plan : goal.returns-in-Ok-clause-faulty_plan
returns-in-Ok-clause-faulty_plan c fault first =
    validated-no_fault c.args.checked.now c.args.steps.now c.in-Ok.cost fault (subst HasDistinctNames c.task-task.ensures.task c.task-task.ensures.names)
    c.in-Ok.ensures.valid first
