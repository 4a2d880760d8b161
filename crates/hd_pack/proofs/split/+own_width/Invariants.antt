use Rattle.std.proofs.Common.{length}
use Rattle.hd_pack.proofs.split.+own_width.Given as goal

abbrev pub decreases-own_width : goal.decreases-own_width
decreases-own_width l = length l.segments.now
