use Rattle.std.proofs.Common.{◌≡◌, take}
use Rattle.hd_images.specs.Meeting.{with_forms}
use Rattle.hd_images.proofs.atoms.add_all.Given as goal

abbrev pub invariant-loop-atom : goal.invariant-loop-atom
invariant-loop-atom l = l.forms ≡ with_forms l.fn.forms (take l.atom-index l.atoms)
