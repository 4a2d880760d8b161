use Rattle.std.proofs.Common.{◌+◌, get_or, sym, ap, ◌∙◌, subst}
use Rattle.hd_hmax.specs.Batches.{HasAdded}
use Rattle.hd_hmax.proofs.Batching.{added_next}
use Rattle.hd_hmax.proofs.batches.push_recipes.Goals as goal

pub loop-index-preserved : goal.loop-index-preserved
loop-index-preserved c =
    let ns = c.args.needs.now in
    let ps = c.args.brings.now in
    let i = c.loop-index.index in
    let r = c.recipe_of.result in
    let e = c.recipe_of.ensures in
    subst (HasAdded ns ps (i + 2) c.args.recipes.now.items) (sym c.in_ok-push.ensures.items)
    (added_next ns r c.requires.some c.requires.few e.first e.second e.third e.fourth ps i c.loop-index-test.true e.one
    (e.other ∙ (c.place_or-other.ensures ∙ ap (get_or ps (i + 1)) (sym e.one)))
    c.args.recipes.now.items c.loop-index.recipes.items c.loop-index.invariant)
