use Rattle.hd_grounding.proofs.TransferActing.{actions_numbered, has_action-kept}
use Rattle.hd_grounding.proofs.Others.{kept-has_action}
use Rattle.hd_grounding.proofs.transfer_laws.actions_are_the_kept_instances.Goals as goal

pub returns : goal.returns
returns c = record { numbered = actions_numbered; kept = λ t u i made. (kept-has_action t u made i, has_action-kept t u made i) }
