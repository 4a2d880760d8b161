use Rattle.std.proofs.Common.{◌≡◌, true, take, fold}
use Rattle.std.specs.List.{list_all}
use Rattle.hd_task.specs.Effects.{effect_stays}
use Rattle.hd_pack.specs.Leading.{with_effect_value}
use Rattle.hd_tables.proofs.draft.Draft.set_fluents.Given as goal

-- the effects so far stay in the range, and are written
abbrev pub invariant-loop-effect : goal.invariant-loop-effect
invariant-loop-effect l = record {
  stay : list_all (effect_stays l.before.fluents) (take l.effect-index l.effects) ≡ true;
  self : l.self ≡ fold (with_effect_value l.before.fluents) l.initial.self (take l.effect-index l.effects);
}
