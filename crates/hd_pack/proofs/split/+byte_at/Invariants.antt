use Rattle.std.proofs.Common.{length}
use Rattle.hd_pack.proofs.split.+byte_at.Given as goal

abbrev pub decreases-byte_at : goal.decreases-byte_at
decreases-byte_at l = length l.segments.now
