use Rattle.std.proofs.Common.{◌≡◌, ◌&&◌, not, take}
use Rattle.hd_lifted.specs.declared.schema.Ground.{Ground}
use Rattle.hd_lifted.specs.Effects.{names_atom}
use Rattle.hd_judge.specs.Tables.{truth_in}
use Rattle.hd_judge.proofs.atoms.take_out.Given as goal

abbrev pub invariant-loop-atom : goal.invariant-loop-atom
invariant-loop-atom l = (g : Ground) → truth_in l.truths g ≡ (truth_in l.fn.truths g && not (names_atom l.objects (take l.atom-index l.atoms) g))
