use Rattle.hd_grounding.proofs.Others.{departing-has_action}
use Rattle.hd_grounding.proofs.transfer_laws.departing_instances_have_actions.Goals as goal

pub returns : goal.returns
returns c t u p m r i made there here is departs = departing-has_action t u made p m r there here i is departs
