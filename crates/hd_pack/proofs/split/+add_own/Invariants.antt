use Rattle.std.proofs.Common.{length}
use Rattle.hd_pack.proofs.split.+add_own.Given as goal

abbrev pub decreases-add_own : goal.decreases-add_own
decreases-add_own l = length l.segments.now
