use Rattle.std.proofs.Common.{◌≡◌, map, take, pos}
use Rattle.std.specs.Prelude.{unwrap_or}
use Rattle.hd_lifted.specs.States.{first_value}
use Rattle.hd_images.proofs.start.values_of.Given as goal

abbrev pub invariant-loop-fluent : goal.invariant-loop-fluent
invariant-loop-fluent l = l.values.items ≡ map (λ g. unwrap_or (first_value l.lookups.values g) (pos 0)) (take l.fluent-index l.fluents)
