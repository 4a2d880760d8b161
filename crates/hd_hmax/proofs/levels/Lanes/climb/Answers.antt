use Rattle.std.proofs.Common.{◌≡◌, ◌+◌, ◌<◌, ℕ, true, false, cond, length, get_or, Some, None, refl, sym, ap, ◌∙◌, subst, arith}
use Rattle.std.specs.Prelude.{bit_and}
use Rattle.std.specs.Int.{w64, bit_not}
use Rattle.hd_task.specs.declared.state.State.{State}
use Rattle.hd_task.specs.Plans.{IsStateOf}
use Rattle.hd_hmax.specs.declared.estimate.EstimateValue.TheVariants.{Dead}
use Rattle.hd_hmax.specs.Costs.{up_to}
use Rattle.hd_hmax.specs.Rounds.{hmax}
use Rattle.hd_hmax.specs.Rules.{needs, row}
use Rattle.hd_hmax.specs.Lanes.{bit, has_all, table_of, IsLane, IsShut, IsValueOf}
use Rattle.hd_hmax.proofs.Compiling.{bring_right}
use Rattle.hd_hmax.proofs.Giving.{none_told}
use Rattle.hd_hmax.proofs.Lanes.{goal_at, dead_lane}
use Rattle.hd_hmax.proofs.Leveling.{needs_within, levels_none, looked, still_above, looked_dead}
use Rattle.hd_hmax.proofs.levels.Lanes.climb.Goals as goal

pub loop-level-init : goal.loop-level-init
loop-level-init c =
    let r = c.args.rules.now in
    let w = c.args.self.now in
    record {
      widths = c.requires.widths;
      quiet = omega arith;
      many = refl;
      levels = levels_none r.task.now r.brings w.first.items w.tables.items w.room.items c.requires.begins;
      above = λ s j d h of lane is low. absurd (omega (arith, low));
      told = λ s j h of lane. none_told r.task.now s j;
    }

pub ready-requires : goal.ready-requires
ready-requires c =
    let r = c.args.rules.now in
    let goal_is = c.len-goal.ensures in
    needs_within r.task.now r.needs r.asks c.len-goal.result (length c.as_slice.result.now) c.row.result.now (omega (arith, goal_is)) c.row.ensures (ap length c.as_slice.ensures.value ∙ c.make.ensures.wide)

pub returns-then-open-eq0-clause-values : goal.returns-then-open-eq0-clause-values
returns-then-open-eq0-clause-values c s j h of lane =
    let r = c.args.rules.now in
    let t = r.task.now in
    let f = c.loop-level.invariant in
    let level = c.loop-level.level in
    let first = c.args.self.now.first.items in
    let right = bring_right t r.askers r.counts.items r.brings r.of_task.transposed r.of_task.brought in
    let e = c.make.ensures in
    let tables = c.make.new.tables.items in
    let room = c.make.new.room.items in
    let goal_is = c.len-goal.ensures in
    let needs_is : c.row.result.now ≡ needs t (length t.actions) = c.row.ensures ∙ (ap (row r.needs) goal_is ∙ r.asks.each (length t.actions) (omega arith)) in
    let there = goal_at t r.brings right first (level + 1) tables room (e.levels c.if-not-make.false first f.levels) s j of lane h level (omega arith) in
    let met : bit c.ready.result j ≡ up_to level (hmax t s) =
    c.ready.ensures j h ∙ (ap (λ x. has_all x j c.row.result.now) (c.as_slice.ensures.value ∙ sym e.last) ∙ (ap (has_all (table_of tables level) j) needs_is ∙ sym there))
    in
    subst (IsValueOf t s) (sym (c.note.ensures j h))
    (looked t s c.loop-level.open c.ready.result j level (get_or c.loop-level.values j None) h (let fits = c.loop-level.auto.open-fits in omega (arith, fits)) met (λ is d low. f.above s j d h of lane is low) (f.told s j h of lane))

pub returns-then-is_stuck-clause-values : goal.returns-then-is_stuck-clause-values
returns-then-is_stuck-clause-values c s j h of lane =
    let r = c.args.rules.now in
    let t = r.task.now in
    let f = c.loop-level.invariant in
    let level = c.loop-level.level in
    let first = c.args.self.now.first.items in
    let right = bring_right t r.askers r.counts.items r.brings r.of_task.transposed r.of_task.brought in
    let e = c.make.ensures in
    let tables = c.make.new.tables.items in
    let room = c.make.new.room.items in
    let goal_is = c.len-goal.ensures in
    let needs_is : c.row.result.now ≡ needs t (length t.actions) = c.row.ensures ∙ (ap (row r.needs) goal_is ∙ r.asks.each (length t.actions) (omega arith)) in
    let levels = e.levels c.if-not-make.false first f.levels in
    let there = goal_at t r.brings right first (level + 1) tables room levels s j of lane h level (omega arith) in
    let met : bit c.ready.result j ≡ up_to level (hmax t s) =
    c.ready.ensures j h ∙ (ap (λ x. has_all x j c.row.result.now) (c.as_slice.ensures.value ∙ sym e.last) ∙ (ap (has_all (table_of tables level) j) needs_is ∙ sym there))
    in
    let o = c.loop-level.open in
    let a = c.ready.result in
    let value = get_or c.loop-level.values j None in
    let fits : o < 18446744073709551616 = let k = c.loop-level.auto.open-fits in omega (arith, k) in
    let above : bit o j ≡ true → (d : ℕ) → d < level → up_to d (hmax t s) ≡ false = λ is d low. f.above s j d h of lane is low in
    let told = f.told s j h of lane in
    let same = c.as_slice-then-quiet-rules.ensures.value in
    let stuck : (q : ℕ) → q < length t.actions → IsShut t r.brings q room room j =
    λ q inside. subst (λ x. IsShut t r.brings q x x j) same (c.is_stuck.ensures c.if-is_stuck.true q j h inside)
    in
    subst (IsValueOf t s)
    (sym (c.note-then-is_stuck.ensures j h ∙ ap (λ v. cond (bit (bit_and o (bit_not w64 (bit_and o a))) j) (Some Dead) v) (c.note.ensures j h)))
    (looked_dead t s o a j level value h fits met above told
    (λ is.
    dead_lane t r.brings right first (level + 1) tables room levels s j of lane h stuck
    (ap (λ x. has_all x j (needs t (length t.actions))) (sym e.last) ∙ (sym there ∙ still_above t s o a j level value h fits met above told is level (omega arith)))))

pub loop-level-preserved : goal.loop-level-preserved
loop-level-preserved c =
    let r = c.args.rules.now in
    let t = r.task.now in
    let f = c.loop-level.invariant in
    let level = c.loop-level.level in
    let first = c.args.self.now.first.items in
    let right = bring_right t r.askers r.counts.items r.brings r.of_task.transposed r.of_task.brought in
    let e = c.make.ensures in
    let tables = c.make.new.tables.items in
    let room = c.make.new.room.items in
    let goal_is = c.len-goal.ensures in
    let needs_is : c.row.result.now ≡ needs t (length t.actions) = c.row.ensures ∙ (ap (row r.needs) goal_is ∙ r.asks.each (length t.actions) (omega arith)) in
    let levels = e.levels c.if-not-make.false first f.levels in
    let fits : c.loop-level.open < 18446744073709551616 = let k = c.loop-level.auto.open-fits in omega (arith, k) in
    let met : (s : State) (j : ℕ) → j < 64 → IsStateOf t s → IsLane t s first j → bit c.ready.result j ≡ up_to level (hmax t s) =
    λ s j h of lane.
    c.ready.ensures j h
    ∙ (ap (λ x. has_all x j c.row.result.now) (c.as_slice.ensures.value ∙ sym e.last)
    ∙ (ap (has_all (table_of tables level) j) needs_is ∙ sym (goal_at t r.brings right first (level + 1) tables room levels s j of lane h level (omega arith))))
    in
    record {
      widths = record { first = f.widths.first; room = e.wide; tables = e.widths };
      quiet = c.quiet_after-quiet.ensures;
      many = e.many ∙ f.many;
      levels = levels;
      above = λ s j d h of lane is low.
          still_above t s c.loop-level.open c.ready.result j level (get_or c.loop-level.values j None) h fits (met s j h of lane) (λ is d low. f.above s j d h of lane is low) (f.told s j h of lane) is d low;
      told = λ s j h of lane.
          subst (IsValueOf t s) (sym (c.note.ensures j h))
          (looked t s c.loop-level.open c.ready.result j level (get_or c.loop-level.values j None) h fits (met s j h of lane) (λ is d low. f.above s j d h of lane is low) (f.told s j h of lane));
    }
