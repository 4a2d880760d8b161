use Rattle.std.proofs.Common.{◌≡◌, take}
use Rattle.hd_lifted.specs.declared.schema.Ground.{Ground}
use Rattle.hd_lifted.specs.States.{is_listed}
use Rattle.hd_judge.specs.Tables.{truth_in}
use Rattle.hd_judge.proofs.table.Truths.listed.Given as goal

abbrev pub invariant-loop-atom : goal.invariant-loop-atom
invariant-loop-atom l = (g : Ground) → truth_in l.table g ≡ is_listed (take l.atom-index l.listed) g
