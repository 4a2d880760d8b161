use Rattle.std.proofs.Common.{◌≡◌, true, take}
use Rattle.std.specs.List.{list_all}
use Rattle.hd_task.specs.Effects.{effect_stays}
use Rattle.hd_pack.proofs.leading.effects_stay.Given as goal

-- the effects so far stay in the range
abbrev pub invariant-loop-effect : goal.invariant-loop-effect
invariant-loop-effect l = record { stay : list_all (effect_stays l.state.fluents) (take l.effect-index l.effects) ≡ true }
