use Rattle.std.proofs.Common.{◌≡◌, take}
use Rattle.std.specs.Prelude.{flat_map}
use Rattle.hd_grounding.specs.Images.{literal_of}
use Rattle.hd_images.proofs.conditions.literals_of.Given as goal

abbrev pub invariant-loop-literal : goal.invariant-loop-literal
invariant-loop-literal l = l.literals.items ≡ flat_map (literal_of l.atoms l.objects) (take l.literal-index l.said)
