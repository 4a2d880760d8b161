use Rattle.std.proofs.Common.{◌≡◌, ◌+◌, ◌-◌, ◌<◌, ◌≤◌, ◌&&◌, ◌||◌, ℕ, [], List, length, get_or, sym, ap, ◌∙◌, subst, arith}
use Rattle.std.proofs.lemmas.List.{get_or_read, get_or_default}
use Rattle.hd_hmax.specs.Rules.{row}
use Rattle.hd_hmax.specs.Lanes.{is_set, has_all, is_among, table_of, price_at, IsShut}
use Rattle.hd_hmax.proofs.Compiling.{bring_right}
use Rattle.hd_hmax.proofs.Following.{rest_inside, brings_many}
use Rattle.hd_hmax.proofs.Leveling.{IsPaid, needs_within, brings_within, paid_next, paid_skipped}
use Rattle.hd_hmax.proofs.Places.{price_there}
use Rattle.hd_hmax.proofs.Starting.{length-prices}
use Rattle.hd_hmax.proofs.levels.bring_rest.Goals as goal
use Rattle.hd_hmax.proofs.levels.bring_rest.Goals.{then-price-gt0+then-price-level, else-price-gt0, else-price-gt0-via-then-price-gt0+else-price-level, else-price-gt0-via-else-price-gt0}

pub loop-action-init : goal.loop-action-init
loop-action-init c = record {
  wide = c.requires.wide;
  kept = λ p j h e. e;
  shut = λ k j h low. absurd (omega (arith, low));
  sound = λ s j h below there. there;
}

pub index-price-requires : goal.index-price-requires
index-price-requires c =
    let r = c.args.rules.now in
    let t = r.task.now in
    let inside = rest_inside t r.needs r.brings r.batches.recipes.items r.batches.rest.items r.batched c.as_slice-action-items.result.now c.as_slice-action-items.ensures.value c.loop-action.action-index c.loop-action-test.true in
    let count = length-prices t r.prices.items r.of_task.each_price in
    let fits = r.prices.ok.0 in
    omega (arith, inside, count, fits)

pub row-requires : goal.row-requires
row-requires c =
    let r = c.args.rules.now in
    let t = r.task.now in
    let inside = rest_inside t r.needs r.brings r.batches.recipes.items r.batches.rest.items r.batched c.as_slice-action-items.result.now c.as_slice-action-items.ensures.value c.loop-action.action-index c.loop-action-test.true in
    let many = r.asks.many in
    omega (arith, inside, many)

pub row-requires-then-price-level : goal.row-requires-then-price-level
row-requires-then-price-level c =
    let r = c.args.rules.now in
    let t = r.task.now in
    let inside = rest_inside t r.needs r.brings r.batches.recipes.items r.batches.rest.items r.batched c.as_slice-action-items.result.now c.as_slice-action-items.ensures.value c.loop-action.action-index c.loop-action-test.true in
    let many = brings_many t r.askers r.brings r.of_task.brought in
    omega (arith, inside, many)

pub take_action-requires-clause-needs : goal.take_action-requires-clause-needs
take_action-requires-clause-needs c =
    let r = c.args.rules.now in
    let t = r.task.now in
    let q = get_or c.as_slice-action-items.result.now c.loop-action.action-index 0 in
    let tables = c.args.tables.now in
    let at = c.args.level - c.index-price.result.now in
    let inside = rest_inside t r.needs r.brings r.batches.recipes.items r.batches.rest.items r.batched c.as_slice-action-items.result.now c.as_slice-action-items.ensures.value c.loop-action.action-index c.loop-action-test.true in
    let some = c.if-price-gt0.true in
    let cheap = c.if-price-level.true in
    let below : at < length tables = let h = c.requires.there in omega (arith, some, cheap, h) in
    let old : c.as_slice-old.result.now ≡ table_of tables at = c.as_slice-old.ensures ∙ get_or_read tables at c.index-tables-level.result below c.index-tables-level.is [] in
    needs_within t r.needs r.asks q (length c.as_slice-old.result.now) c.row.result.now (omega (arith, inside)) c.row.ensures (ap length old ∙ c.requires.widths at below)

pub take_action-requires-clause-brings : goal.take_action-requires-clause-brings
take_action-requires-clause-brings c =
    let r = c.args.rules.now in
    let t = r.task.now in
    let q = get_or c.as_slice-action-items.result.now c.loop-action.action-index 0 in
    let right = bring_right t r.askers r.counts.items r.brings r.of_task.transposed r.of_task.brought in
    let inside = rest_inside t r.needs r.brings r.batches.recipes.items r.batches.rest.items r.batched c.as_slice-action-items.result.now c.as_slice-action-items.ensures.value c.loop-action.action-index c.loop-action-test.true in
    brings_within t r.brings right q (length c.loop-action.room.items) c.row-then-price-level.result.now inside c.row-then-price-level.ensures c.loop-action.invariant.wide

pub loop-action-preserved : goal.loop-action-preserved
loop-action-preserved c =
    let r = c.args.rules.now in
    let t = r.task.now in
    let rest = r.batches.rest.items in
    let i = c.loop-action.action-index in
    let tables = c.args.tables.now in
    let level = c.args.level in
    let start = c.args.room.now.items in
    let right = bring_right t r.askers r.counts.items r.brings r.of_task.transposed r.of_task.brought in
    let inside = rest_inside t r.needs r.brings r.batches.recipes.items rest r.batched c.as_slice-action-items.result.now c.as_slice-action-items.ensures.value i c.loop-action-test.true in
    let listed : get_or c.as_slice-action-items.result.now i 0 ≡ get_or rest i 0 = ap (λ (xs : List ℕ). get_or xs i 0) c.as_slice-action-items.ensures.value in
    let q = get_or rest i 0 in
    let own : q < length t.actions = omega (arith, inside, listed) in
    let count = length-prices t r.prices.items r.of_task.each_price in
    let price : c.index-price.result.now ≡ price_at t q =
    get_or_read r.prices.items (get_or c.as_slice-action-items.result.now i 0) _ (omega (arith, count, inside)) c.index-price.ensures 0
    ∙ (ap (λ (xs : List ℕ). get_or xs (get_or c.as_slice-action-items.result.now i 0) 0) r.of_task.each_price
    ∙ (price_there t t.actions (get_or c.as_slice-action-items.result.now i 0) ∙ ap (price_at t) listed))
    in
    elim c.if-price-gt0.branch [
      | then-price-gt0+then-price-level w ↦
          let some = w.if-price-gt0.true in
          let cheap = w.if-price-level.true in
          let at = level - c.index-price.result.now in
          let below : at < length tables = let h = c.requires.there in omega (arith, some, cheap, h) in
          let old : w.as_slice-old.result.now ≡ table_of tables (level - price_at t q) =
          w.as_slice-old.ensures ∙ (get_or_read tables at w.index-tables-level.result below w.index-tables-level.is [] ∙ ap (λ k. table_of tables (level - k)) price)
          in
          subst (λ (v : _). IsPaid t r.brings tables level start rest (i + 1) v.items) (sym w.room-is)
          (paid_next t r.brings tables right level start rest i c.loop-action.room.items c.loop-action.invariant own (omega (arith, some, price)) (omega (arith, cheap, price))
          w.take_action.new.table.items w.row.result.now w.row-then-price-level.result.now w.take_action.ensures.width (w.row.ensures ∙ (ap (row r.needs) listed ∙ r.asks.each q (omega (arith, own))))
          (w.row-then-price-level.ensures ∙ ap (row r.brings) listed)
          (λ p j h. w.take_action.ensures.bits p j h ∙ ap (λ x. is_set c.loop-action.room.items p j || (is_among w.row-then-price-level.result.now p && has_all x j w.row.result.now)) old))
      | else-price-gt0 w ↦
          subst (λ (v : _). IsPaid t r.brings tables level start rest (i + 1) v.items) (sym w.room-is)
          (paid_skipped t r.brings tables right level start rest i c.loop-action.room.items c.loop-action.invariant
          (elim w.else-price-gt0.branch [
            | else-price-gt0-via-then-price-gt0+else-price-level v ↦ λ some cheap. let no = v.if-price-level.false in omega (arith, no, cheap, price)
            | else-price-gt0-via-else-price-gt0 v ↦ λ some cheap. let no = v.if-price-gt0.false in omega (arith, no, some, price)
          ]))
    ]

pub returns-clause-shut : goal.returns-clause-shut
returns-clause-shut c q j h m =
    let r = c.args.rules.now in
    let t = r.task.now in
    let rest = r.batches.rest.items in
    let past = c.loop-action-test.false in
    let same = c.as_slice-action-items.ensures.value in
    let long = ap length same in
    let within = m.1 in
    let is : get_or rest m.0 0 ≡ q = get_or_default rest m.0 0 q m.1 ∙ m.2 in
    subst (λ x. 0 < price_at t x → price_at t x ≤ c.args.level → IsShut t r.brings x (table_of c.args.tables.now (c.args.level - price_at t x)) c.loop-action.room.items j) is
    (c.loop-action.invariant.shut m.0 j h (omega (arith, past, long, within)))
