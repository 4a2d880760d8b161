use Rattle.hd_grounding.proofs.Others.{none_both}
use Rattle.hd_grounding.proofs.transfer_laws.nothing_departs_unseen.Goals as goal

pub returns : goal.returns
returns c t u p m r made there here = none_both t u made p m r there here
