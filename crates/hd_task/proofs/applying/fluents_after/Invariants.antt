use Rattle.std.proofs.Common.{◌≡◌, true, take, fold}
use Rattle.std.specs.List.{list_all}
use Rattle.hd_task.specs.Effects.{effect_stays}
use Rattle.hd_task.proofs.Fluents.{write}
use Rattle.hd_task.proofs.applying.fluents_after.Given as goal

-- the effects so far stay in the range, and are written
abbrev pub invariant-loop-effect : goal.invariant-loop-effect
invariant-loop-effect l = record {
  stay : list_all (effect_stays l.state.fluents) (take l.effect-index l.action.effects) ≡ true;
  values : l.next.items ≡ fold (write l.state.fluents) l.state.fluents (take l.effect-index l.action.effects);
}
