use Rattle.std.proofs.Common.{◌≡◌, true, take, ◌+◌, ◌*◌, ◌^◌}
use Rattle.std.specs.List.{list_all}
use Rattle.hd_base.specs.declared.range.TheConstants.{RANGE_END}
use Rattle.hd_judge.specs.Tables.{reached_in}
use Rattle.hd_judge.specs.Effects.{amount_stays, AreChangesOf, AreNear}
use Rattle.hd_judge.proofs.effect.changes_of.Given as goal

-- the amounts so far stay in the range, and the changes are those of the effects so far, which are
-- far from the ends of 128 bits
abbrev pub invariant-loop-effect : goal.invariant-loop-effect
invariant-loop-effect l =
    let v = (reached_in l.place).state.values in record {
      stay : list_all (amount_stays v l.objects) (take l.effect-index l.effects) ≡ true;
      changes : AreChangesOf v l.objects (take l.effect-index l.effects) l.changes;
      near : AreNear (2 ^ 114 + RANGE_END * l.effect-index) l.changes;
    }
