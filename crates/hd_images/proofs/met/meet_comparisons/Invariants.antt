use Rattle.std.proofs.Common.{◌≡◌, take}
use Rattle.std.specs.Prelude.{flat_map}
use Rattle.hd_lifted.specs.Met.{met_by_comparison}
use Rattle.hd_images.specs.Meeting.{with_forms}
use Rattle.hd_images.proofs.met.meet_comparisons.Given as goal

abbrev pub invariant-loop-comparison : goal.invariant-loop-comparison
invariant-loop-comparison l = l.forms ≡ with_forms l.fn.forms (flat_map (met_by_comparison l.objects) (take l.comparison-index l.said))
