use Rattle.std.proofs.Common.{◌≡◌, map, take}
use Rattle.hd_grounding.specs.Images.{comparison_of}
use Rattle.hd_images.proofs.conditions.comparisons_of.Given as goal

abbrev pub invariant-loop-comparison : goal.invariant-loop-comparison
invariant-loop-comparison l = l.comparisons.items ≡ map (comparison_of l.fluents l.objects) (take l.comparison-index l.said)
