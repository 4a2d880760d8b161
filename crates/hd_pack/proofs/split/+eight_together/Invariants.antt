use Rattle.std.proofs.Common.{length}
use Rattle.hd_pack.proofs.split.+eight_together.Given as goal

abbrev pub decreases-eight_together : goal.decreases-eight_together
decreases-eight_together l = length l.segments.now
