use Rattle.std.proofs.Common.{◌≡◌, true, take, fold}
use Rattle.std.specs.List.{list_all}
use Rattle.hd_task.specs.Effects.{effect_stays}
use Rattle.hd_zobrist.specs.Hash.{state_hash}
use Rattle.hd_pack.specs.Leading.{with_effect_value}
use Rattle.hd_pack.proofs.leading.set_fluents.Given as goal

-- the effects so far stay in the range, and are written, and the hash is the state's
abbrev pub invariant-loop-effect : goal.invariant-loop-effect
invariant-loop-effect l = record {
  stay : list_all (effect_stays l.state.fluents) (take l.effect-index l.effects) ≡ true;
  kid : l.kid ≡ fold (with_effect_value l.state.fluents) l.initial.kid (take l.effect-index l.effects);
  hash : l.hash ≡ state_hash l.kid;
}
