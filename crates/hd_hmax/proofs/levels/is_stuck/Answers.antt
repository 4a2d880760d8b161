use Rattle.std.proofs.Common.{◌≡◌, ◌<◌, length, inl, inr, sym, ◌∙◌, subst, arith}
use Rattle.std.proofs.lemmas.Bool.{cases_lt}
use Rattle.hd_hmax.specs.Lanes.{IsShut}
use Rattle.hd_hmax.proofs.Compiling.{bring_right}
use Rattle.hd_hmax.proofs.Leveling.{needs_within, brings_within, stuck_here}
use Rattle.hd_hmax.proofs.levels.is_stuck.Goals as goal

pub unserved-requires-clause-needs : goal.unserved-requires-clause-needs
unserved-requires-clause-needs c =
    let r = c.args.rules.now in
    let inside : c.loop-action.action < length r.task.now.actions = let h = c.loop-action-test.true in let e = c.len-action-end.ensures in omega (arith, h, e) in
    needs_within r.task.now r.needs r.asks c.loop-action.action (length c.args.table.now) c.row.result.now (omega (arith, inside)) c.row.ensures c.requires.wide

pub unserved-requires-clause-brings : goal.unserved-requires-clause-brings
unserved-requires-clause-brings c =
    let r = c.args.rules.now in
    let right = bring_right r.task.now r.askers r.counts.items r.brings r.of_task.transposed r.of_task.brought in
    let inside : c.loop-action.action < length r.task.now.actions = let h = c.loop-action-test.true in let e = c.len-action-end.ensures in omega (arith, h, e) in
    brings_within r.task.now r.brings right c.loop-action.action (length c.args.table.now) c.row-in-loop-action.result.now inside c.row-in-loop-action.ensures c.requires.wide

pub loop-action-preserved : goal.loop-action-preserved
loop-action-preserved c q j h low =
    let r = c.args.rules.now in
    let t = r.task.now in
    let table = c.args.table.now in
    let i = c.loop-action.action in
    let inside : i < length t.actions = let k = c.loop-action-test.true in let e = c.len-action-end.ensures in omega (arith, k, e) in
    elim (cases_lt q i) [
      | inl before ↦ c.loop-action.invariant q j h before
      | inr last ↦
          let same : q ≡ i = omega (arith, low, last) in
          let none : c.unserved.result ≡ 0 = let z = c.if-unserved-ne0.false in omega (arith, z) in
          subst (λ x. IsShut t r.brings x table table j) (sym same)
          (stuck_here t r.brings i table c.row.result.now c.row-in-loop-action.result.now j (c.row.ensures ∙ r.asks.each i (omega (arith, inside))) c.row-in-loop-action.ensures (c.unserved.ensures.none none j h))
    ]
