use Rattle.std.proofs.Common.{◌≡◌, ◌||◌, take}
use Rattle.hd_lifted.specs.declared.schema.Ground.{Ground}
use Rattle.hd_lifted.specs.Effects.{names_atom}
use Rattle.hd_judge.specs.Tables.{truth_in}
use Rattle.hd_judge.proofs.atoms.put_in.Given as goal

abbrev pub invariant-loop-atom : goal.invariant-loop-atom
invariant-loop-atom l = (g : Ground) → truth_in l.truths g ≡ (names_atom l.objects (take l.atom-index l.atoms) g || truth_in l.fn.truths g)
