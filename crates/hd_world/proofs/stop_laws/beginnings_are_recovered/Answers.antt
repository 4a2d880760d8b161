use Rattle.hd_world.proofs.Beginnings.{beginning_recovered}
use Rattle.hd_world.proofs.stop_laws.beginnings_are_recovered.Goals as goal

pub returns : goal.returns
returns c = λ t f entries n legal within few is. beginning_recovered t f entries n legal within few is
