use Rattle.std.proofs.Common.{refl}
use Rattle.hd_pack.specs.Packing.{packed_bytes}
use Rattle.hd_pack.proofs.laws.a_packing_computes.Goals as goal

pub returns-clause-atoms : goal.returns-clause-atoms
unfolding packed_bytes
returns-clause-atoms c = refl

pub returns-clause-fluents : goal.returns-clause-fluents
unfolding packed_bytes
returns-clause-fluents c = refl
