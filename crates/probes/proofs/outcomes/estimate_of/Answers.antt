use Rattle.std.proofs.Common.{◌≡◌, IfOk, subst}
use Rattle.probes.proofs.outcomes.estimate_of.Goals as goal

pub returns : goal.returns
returns c = subst (λ t. IfOk c.estimate.result (λ h. h.task ≡ t)) c.in_ok-hmax.ensures.task c.estimate.ensures.of_task
