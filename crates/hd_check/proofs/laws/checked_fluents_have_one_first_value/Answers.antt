use Rattle.hd_check.proofs.FirstValues.{different_fluents}
use Rattle.hd_check.proofs.laws.checked_fluents_have_one_first_value.Goals as goal

pub returns : goal.returns
returns c = different_fluents
