use Rattle.std.proofs.Common.{length}
use Rattle.hd_pack.proofs.bits.+byte_of.Given as goal

abbrev pub decreases-byte_of : goal.decreases-byte_of
decreases-byte_of c = length c.bits.now
