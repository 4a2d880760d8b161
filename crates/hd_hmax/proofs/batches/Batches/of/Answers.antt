use Rattle.std.proofs.Common.{◌≡◌, ◌+◌, length, get_or, refl, sym, ap, ◌∙◌, subst, arith}
use Rattle.std.proofs.lemmas.List.{length-replicate}
use Rattle.hd_hmax.specs.Rules.{row}
use Rattle.hd_hmax.specs.Batches.{batch, AreBatches}
use Rattle.hd_hmax.proofs.Batching.{nothing, batches_none, batches_next, batches_rest, added_rows}
use Rattle.hd_hmax.proofs.batches.Batches.of.Goals as goal
use Rattle.hd_hmax.proofs.batches.Batches.of.Goals.{then-price-most+then-asked-gt0+then-asked-le-MOST_NEEDS+in_ok-add_recipes, else-price-most+in_ok-push}

pub loop-action-init : goal.loop-action-init
loop-action-init c = record {
  many = ap length c.in_ok-recipes.ensures ∙ length-replicate c.args.most nothing;
  are = batches_none c.args.needs.now c.args.brings.now c.args.prices.now c.args.most c.in_ok-recipes.recipes.items c.new-rest.result.items c.in_ok-recipes.ensures c.new-rest.ensures.items;
}

pub loop-action-preserved : goal.loop-action-preserved
loop-action-preserved c =
    let ns = c.args.needs.now in
    let bs = c.args.brings.now in
    let ps = c.args.prices.now in
    let q = c.loop-action.action in
    let f = c.loop-action.invariant in
    elim c.if-price-most.branch [
      | then-price-most+then-asked-gt0+then-asked-le-MOST_NEEDS+in_ok-add_recipes w ↦
          let e = w.in_ok-add_recipes.ensures in
          let new = w.add_recipes.new.batches.items in
          record {
            many = ap (λ (v : _). length v.items) w.recipes-is ∙ (e.many ∙ f.many);
            are =
                subst (λ (v : _). AreBatches ns bs ps (q + 1) v.items c.if-price-most.rest.items) (sym w.recipes-is)
                (subst (λ (v : _). AreBatches ns bs ps (q + 1) new v.items) (sym w.rest-is)
                (batches_next ns bs ps q c.loop-action.recipes.items c.loop-action.rest.items f.are new (get_or ps q 0) refl
                (added_rows (row ns q) (row bs q) c.row-asked.result.now w.row-brought.result.now (batch c.loop-action.recipes.items (get_or ps q 0)) (batch new (get_or ps q 0)) c.row-asked.ensures w.row-brought.ensures e.added)
                e.others));
          }
      | else-price-most+in_ok-push w ↦
          record {
            many = ap (λ (v : _). length v.items) w.recipes-is ∙ f.many;
            are =
                subst (λ (v : _). AreBatches ns bs ps (q + 1) v.items c.if-price-most.rest.items) (sym w.recipes-is)
                (subst (λ (v : _). AreBatches ns bs ps (q + 1) c.loop-action.recipes.items v.items) (sym w.rest-is)
                (subst (AreBatches ns bs ps (q + 1) c.loop-action.recipes.items) (sym w.in_ok-push.ensures.items)
                (batches_rest ns bs ps q c.loop-action.recipes.items c.loop-action.rest.items f.are)));
          }
    ]

pub returns : goal.returns
returns c =
    let past = c.loop-action-test.false in
    let f = c.loop-action.auto in
    let e = f.action-end in
    let is : c.loop-action.action ≡ length c.args.prices.now = omega (arith, past, e) in
    subst (λ x. AreBatches c.args.needs.now c.args.brings.now c.args.prices.now x c.loop-action.recipes.items c.loop-action.rest.items) is c.loop-action.invariant.are
