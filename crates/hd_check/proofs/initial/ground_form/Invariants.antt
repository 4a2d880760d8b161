use Rattle.std.proofs.Common.{◌≡◌, map, take}
use Rattle.hd_check.specs.Initial.{object_in}
use Rattle.hd_check.proofs.initial.ground_form.Given as goal

abbrev pub invariant-loop-argument : goal.invariant-loop-argument
invariant-loop-argument l = l.objects.items ≡ map object_in (take l.argument-index l.applied.arguments)
