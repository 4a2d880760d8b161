use Rattle.std.proofs.Common.{◌≡◌, take}
use Rattle.hd_grounding.specs.Images.{numbers_of}
use Rattle.hd_images.proofs.conditions.numbers_of.Given as goal

abbrev pub invariant-loop-atom : goal.invariant-loop-atom
invariant-loop-atom l = l.numbers.items ≡ numbers_of l.atoms l.objects (take l.atom-index l.said)
