use Rattle.std.proofs.Common.{◌≡◌, map, take}
use Rattle.hd_images.proofs.names.schema_names.Given as goal

abbrev pub invariant-loop-schema : goal.invariant-loop-schema
invariant-loop-schema l = l.names.items ≡ map (λ x. x.name) (take l.schema-index l.schemas)
