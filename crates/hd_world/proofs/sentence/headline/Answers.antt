use Rattle.hd_world.proofs.Whole.{headline}
use Rattle.hd_world.proofs.sentence.headline.Goals as goal

pub returns : goal.returns
returns c = headline _
