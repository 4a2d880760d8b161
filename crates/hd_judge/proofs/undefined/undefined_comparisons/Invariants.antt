use Rattle.std.proofs.Common.{◌≡◌, None, take}
use Rattle.std.specs.Prelude.{flat_map}
use Rattle.hd_lifted.specs.Met.{met_by_comparison}
use Rattle.hd_lifted.specs.Questions.{first_undefined}
use Rattle.hd_judge.proofs.undefined.undefined_comparisons.Given as goal

abbrev pub invariant-loop-comparison : goal.invariant-loop-comparison
invariant-loop-comparison l = first_undefined l.lookups (flat_map (met_by_comparison l.objects) (take l.comparison-index l.said)) ≡ None
