use Rattle.std.proofs.Common.{◌≡◌, ◌++◌, map}
use Rattle.hd_images.specs.Gathering.{effect_from}
use Rattle.hd_images.proofs.effects.effects_from.Given as goal

abbrev pub invariant-loop-fluent : goal.invariant-loop-fluent
invariant-loop-fluent l = l.effects.items ++ map effect_from l.fluent-iterator ≡ map effect_from l.fn.changes.entries
