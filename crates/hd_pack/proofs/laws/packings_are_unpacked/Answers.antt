use Rattle.hd_pack.proofs.Trips.{unpacked_packed}
use Rattle.hd_pack.proofs.laws.packings_are_unpacked.Goals as goal

pub returns : goal.returns
returns c = λ s fit. unpacked_packed s fit
