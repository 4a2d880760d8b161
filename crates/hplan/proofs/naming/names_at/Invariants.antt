use Rattle.std.proofs.Common.{◌≡◌, map, take}
use Rattle.hd_task.specs.FormText.{name_at}
use Rattle.hplan.proofs.naming.names_at.Given as goal

abbrev pub invariant-loop-number : goal.invariant-loop-number
invariant-loop-number l = l.found.items ≡ map (name_at l.names) (take l.number-index l.numbers)
