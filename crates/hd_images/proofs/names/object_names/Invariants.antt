use Rattle.std.proofs.Common.{◌≡◌, map, take}
use Rattle.hd_images.proofs.names.object_names.Given as goal

abbrev pub invariant-loop-object : goal.invariant-loop-object
invariant-loop-object l = l.names.items ≡ map (λ x. x.name) (take l.object-index l.objects)
