use Rattle.std.proofs.Common.{◌≡◌, ◌+◌, ◌<◌, ℕ, List, length, get_or, sym, ap, ◌∙◌, subst, arith}
use Rattle.std.proofs.lemmas.List.{get_or_read}
use Rattle.hd_hmax.specs.Lanes.{has_all, price_at}
use Rattle.hd_hmax.proofs.Compiling.{bring_right}
use Rattle.hd_hmax.proofs.Leveling.{IsFreed, needs_within, brings_within, stuck_here, freed_same, freed_next}
use Rattle.hd_hmax.proofs.Places.{price_there}
use Rattle.hd_hmax.proofs.Starting.{length-prices}
use Rattle.hd_hmax.proofs.levels.pass_free.Goals as goal
use Rattle.hd_hmax.proofs.levels.pass_free.Goals.{then-index-eq0+then-lanes-ne0, then-index-eq0+else-lanes-ne0, else-index-eq0}

pub loop-action-init : goal.loop-action-init
loop-action-init c = record {
  wide = c.requires.wide;
  kept = λ p j h e. e;
  shut = λ is q j h low. absurd (omega (arith, low));
  sound = λ s j d h there. there;
}

pub unserved-lanes-requires-clause-needs : goal.unserved-lanes-requires-clause-needs
unserved-lanes-requires-clause-needs c =
    let r = c.args.rules.now in
    let inside : c.loop-action.action < length r.task.now.actions = let h = c.loop-action-test.true in let e = c.len-action-end.ensures in omega (arith, h, e) in
    needs_within r.task.now r.needs r.asks c.loop-action.action (length c.as_slice.result.now) c.row.result.now (omega (arith, inside)) c.row.ensures (ap length c.as_slice.ensures.value ∙ c.loop-action.invariant.wide)

pub unserved-lanes-requires-clause-brings : goal.unserved-lanes-requires-clause-brings
unserved-lanes-requires-clause-brings c =
    let r = c.args.rules.now in
    let right = bring_right r.task.now r.askers r.counts.items r.brings r.of_task.transposed r.of_task.brought in
    let inside : c.loop-action.action < length r.task.now.actions = let h = c.loop-action-test.true in let e = c.len-action-end.ensures in omega (arith, h, e) in
    brings_within r.task.now r.brings right c.loop-action.action (length c.as_slice.result.now) c.row-brings.result.now inside c.row-brings.ensures (ap length c.as_slice.ensures.value ∙ c.loop-action.invariant.wide)

pub give_to-requires : goal.give_to-requires
give_to-requires c =
    let r = c.args.rules.now in
    let right = bring_right r.task.now r.askers r.counts.items r.brings r.of_task.transposed r.of_task.brought in
    let inside : c.loop-action.action < length r.task.now.actions = let h = c.loop-action-test.true in let e = c.len-action-end.ensures in omega (arith, h, e) in
    brings_within r.task.now r.brings right c.loop-action.action (length c.loop-action.room.items) c.row-brings.result.now inside c.row-brings.ensures c.loop-action.invariant.wide

pub loop-action-preserved : goal.loop-action-preserved
loop-action-preserved c =
    let r = c.args.rules.now in
    let t = r.task.now in
    let q = c.loop-action.action in
    let f = c.loop-action.invariant in
    let start = c.args.room.now.items in
    let room = c.loop-action.room.items in
    let right = bring_right t r.askers r.counts.items r.brings r.of_task.transposed r.of_task.brought in
    let inside : q < length t.actions = let h = c.loop-action-test.true in let e = c.len-action-end.ensures in omega (arith, h, e) in
    let count = length-prices t r.prices.items r.of_task.each_price in
    let price : c.index.result.now ≡ price_at t q = get_or_read r.prices.items q _ (omega (arith, count, inside)) c.index.ensures 0 ∙ (ap (λ (xs : List ℕ). get_or xs q 0) r.of_task.each_price ∙ price_there t t.actions q) in
    elim c.if-index-eq0.branch [
      | then-index-eq0+then-lanes-ne0 w ↦
          let zero = w.if-index-eq0.true in
          subst (λ (v : _). IsFreed t r.brings start (q + 1) v.items c.if-index-eq0.still) (sym w.room-is)
          (subst (IsFreed t r.brings start (q + 1) w.give_to.new.table.items) (sym w.still-is)
          (freed_next t r.brings right start q room c.loop-action.still f inside (omega (arith, zero, price)) w.unserved-lanes.result w.give_to.new.table.items w.row.result.now w.row-brings.result.now
          w.give_to.ensures.width (w.row.ensures ∙ r.asks.each q (omega (arith, inside))) w.row-brings.ensures
          (λ j h is. ap (λ x. has_all x j w.row.result.now) (sym w.as_slice.ensures.value) ∙ w.unserved-lanes.ensures.only j h is) w.give_to.ensures.bits))
      | then-index-eq0+else-lanes-ne0 w ↦
          let none : w.unserved-lanes.result ≡ 0 = let z = w.if-lanes-ne0.false in omega (arith, z) in
          subst (λ (v : _). IsFreed t r.brings start (q + 1) v.items c.if-index-eq0.still) (sym w.room-is)
          (subst (IsFreed t r.brings start (q + 1) room) (sym w.still-is)
          (freed_same t r.brings right start q room c.loop-action.still f
          (λ j h free.
          stuck_here t r.brings q room w.row.result.now w.row-brings.result.now j (w.row.ensures ∙ r.asks.each q (omega (arith, inside))) w.row-brings.ensures
          (λ all.
          ap (λ x. has_all x j w.row-brings.result.now) (sym w.as_slice.ensures.value)
          ∙ w.unserved-lanes.ensures.none none j h (ap (λ x. has_all x j w.row.result.now) w.as_slice.ensures.value ∙ all)))))
      | else-index-eq0 w ↦
          let some = w.if-index-eq0.false in
          subst (λ (v : _). IsFreed t r.brings start (q + 1) v.items c.if-index-eq0.still) (sym w.room-is)
          (subst (IsFreed t r.brings start (q + 1) room) (sym w.still-is)
          (freed_same t r.brings right start q room c.loop-action.still f (λ j h free. absurd (some (price ∙ free)))))
    ]

pub returns-clause-shut : goal.returns-clause-shut
returns-clause-shut c is q j h inside free =
    let past = c.loop-action-test.false in
    let end = c.len-action-end.ensures in
    c.loop-action.invariant.shut is q j h (omega (arith, past, end, inside)) free
