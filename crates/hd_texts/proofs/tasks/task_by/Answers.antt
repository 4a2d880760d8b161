use Rattle.hd_texts.specs.Tasks.{Ungrounded}
use Rattle.hd_texts.proofs.tasks.task_by.Goals as goal

pub returns-in-Ok-clause-found : goal.returns-in-Ok-clause-found
returns-in-Ok-clause-found g c =
    record { lifted = c.in_ok-checked.checked; says = c.in_ok-checked.ensures.found; made = c.in-Ok.ensures.task }

pub returns-clause-refusal : goal.returns-clause-refusal
returns-clause-refusal g c =
    rw c.grounded_in.ensures
    (Ungrounded c.in_ok-checked.checked c.in-Err.error c.in_ok-checked.ensures.found c.in-Err.ensures.refusal)
