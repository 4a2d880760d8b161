use Rattle.hd_check.proofs.Faultless.{well_formed}
use Rattle.hd_check.proofs.laws.faultless_texts_are_well_formed.Goals as goal

pub returns : goal.returns
returns c = well_formed
