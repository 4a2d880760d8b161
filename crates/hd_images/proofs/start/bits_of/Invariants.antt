use Rattle.std.proofs.Common.{◌≡◌, map, take}
use Rattle.hd_lifted.specs.States.{is_listed}
use Rattle.hd_images.proofs.start.bits_of.Given as goal

abbrev pub invariant-loop-atom : goal.invariant-loop-atom
invariant-loop-atom l = l.bits.items ≡ map (is_listed (take l.atom-index l.listed)) l.atoms
