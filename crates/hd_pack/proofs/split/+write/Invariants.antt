use Rattle.std.proofs.Common.{length}
use Rattle.hd_pack.proofs.split.+write.Given as goal

abbrev pub decreases-write : goal.decreases-write
decreases-write l = length l.segments.now
