use Rattle.std.proofs.Common.{◌≡◌, ◌+◌, ◌-◌, ◌<◌, ◌||◌, [], length, sym, ap, ◌∙◌, subst, arith}
use Rattle.std.proofs.Math.Logic.{∥∥₁_elim}
use Rattle.std.proofs.Props.{props}
use Rattle.std.proofs.lemmas.List.{get_or_read}
use Rattle.hd_hmax.specs.Lanes.{is_set, table_of}
use Rattle.hd_hmax.specs.Batches.{batch, is_given}
use Rattle.hd_hmax.proofs.Compiling.{bring_right}
use Rattle.hd_hmax.proofs.Following.{IsFollowed, IsFollowed-prop, followed_none, recipe_needs, recipe_gives, batch_skipped, batch_followed}
use Rattle.hd_hmax.proofs.levels.bring_batches.Goals as goal
use Rattle.hd_hmax.proofs.levels.bring_batches.Goals.{then-price-most, else-price-most}

pub loop-price-init : goal.loop-price-init
loop-price-init c = followed_none c.args.rules.now.task.now c.args.rules.now.batches.recipes.items c.args.tables.now c.args.level c.args.room.now.items c.requires.wide

pub take_batch-requires-clause-needs : goal.take_batch-requires-clause-needs
take_batch-requires-clause-needs c =
    let r = c.args.rules.now in
    let t = r.task.now in
    let price = c.loop-price.price in
    let tables = c.args.tables.now in
    let at = c.args.level - price in
    let right = bring_right t r.askers r.counts.items r.brings r.of_task.transposed r.of_task.brought in
    let below : at < length tables = let h = c.requires.there in let k = c.loop-price.auto.price in let e = c.loop-price-test.true in omega (arith, h, k, e) in
    let old : c.as_slice-old.result.now ≡ table_of tables at = c.as_slice-old.ensures ∙ get_or_read tables at c.index-tables-level.result below c.index-tables-level.is [] in
    let there : price < length r.batches.recipes.items = let h = c.if-price-most.true in let e = c.len-most.ensures ∙ r.batches.recipes.ok.0 in omega (arith, h, e) in
    ∥∥₁_elim r.batched (hlevel props)
    (λ are.
    recipe_needs t r.needs r.brings tables r.batches.recipes.items r.batches.rest.items right r.asks are price (length c.as_slice-old.result.now) c.as_slice.result.now
    (c.as_slice.ensures ∙ get_or_read r.batches.recipes.items price c.index.result.now there c.index.ensures [])
    (ap length old ∙ c.requires.widths at below))

pub take_batch-requires-clause-gives : goal.take_batch-requires-clause-gives
take_batch-requires-clause-gives c =
    let r = c.args.rules.now in
    let t = r.task.now in
    let price = c.loop-price.price in
    let right = bring_right t r.askers r.counts.items r.brings r.of_task.transposed r.of_task.brought in
    let there : price < length r.batches.recipes.items = let h = c.if-price-most.true in let e = c.len-most.ensures ∙ r.batches.recipes.ok.0 in omega (arith, h, e) in
    ∥∥₁_elim r.batched (hlevel props)
    (λ are.
    recipe_gives t r.needs r.brings c.args.tables.now r.batches.recipes.items r.batches.rest.items right r.asks are price (length c.loop-price.room.items) c.as_slice.result.now
    (c.as_slice.ensures ∙ get_or_read r.batches.recipes.items price c.index.result.now there c.index.ensures [])
    c.loop-price.invariant.wide)

pub loop-price-preserved : goal.loop-price-preserved
loop-price-preserved c =
    let r = c.args.rules.now in
    let t = r.task.now in
    let price = c.loop-price.price in
    let tables = c.args.tables.now in
    let level = c.args.level in
    let batches = r.batches.recipes.items in
    let start = c.args.room.now.items in
    let room = c.loop-price.room.items in
    let right = bring_right t r.askers r.counts.items r.brings r.of_task.transposed r.of_task.brought in
    let some = c.loop-price.auto.price in
    let low = c.loop-price-test.true in
    let most = c.len-most.ensures ∙ r.batches.recipes.ok.0 in
    ∥∥₁_elim r.batched (IsFollowed-prop t batches tables level start (price + 1) c.if-price-most.room.items)
    (λ are.
    elim c.if-price-most.branch [
      | then-price-most w ↦
          let at = level - price in
          let below : at < length tables = let h = c.requires.there in omega (arith, h, some, low) in
          let old : w.as_slice-old.result.now ≡ table_of tables at = w.as_slice-old.ensures ∙ get_or_read tables at w.index-tables-level.result below w.index-tables-level.is [] in
          let there : price < length batches = let h = w.if-price-most.true in omega (arith, h, most) in
          let rs : w.as_slice.result.now ≡ batch batches price = w.as_slice.ensures ∙ get_or_read batches price w.index.result.now there w.index.ensures [] in
          subst (λ (v : _). IsFollowed t batches tables level start (price + 1) v.items) (sym w.room-is)
          (batch_followed t r.needs r.brings tables batches r.batches.rest.items right r.asks are level start price room (omega (arith, some)) (omega (arith, low)) c.loop-price.invariant w.take_batch.new.table.items
          w.take_batch.ensures.width
          (λ p j h. w.take_batch.ensures.bits p j h ∙ (ap (λ x. is_set room p j || is_given x w.as_slice-old.result.now p j) rs ∙ ap (λ x. is_set room p j || is_given (batch batches price) x p j) old)))
      | else-price-most w ↦
          subst (λ (v : _). IsFollowed t batches tables level start (price + 1) v.items) (sym w.room-is)
          (batch_skipped t r.needs r.brings tables batches r.batches.rest.items right r.asks are level start price room (omega (arith, some)) (omega (arith, low)) c.loop-price.invariant (let h = w.if-price-most.false in omega (arith, h, most)))
    ])
