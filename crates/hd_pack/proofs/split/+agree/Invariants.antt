use Rattle.std.proofs.Common.{length}
use Rattle.hd_pack.proofs.split.+agree.Given as goal

abbrev pub decreases-agree : goal.decreases-agree
decreases-agree l = length l.segments.now
