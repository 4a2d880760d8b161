use Rattle.std.proofs.Common.{◌≡◌, map, take}
use Rattle.hd_lifted.specs.States.{object_of}
use Rattle.hd_lifted.proofs.reading.ground_form_of.Given as goal

abbrev pub invariant-loop-argument : goal.invariant-loop-argument
invariant-loop-argument l = l.found.items ≡ map (object_of l.objects) (take l.argument-index l.argument-items)
