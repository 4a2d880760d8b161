use Rattle.std.proofs.Common.{length, get_or, arith, length-set}
use Rattle.std.specs.Prelude.{bit_or}
use Rattle.std.proofs.lemmas.List.Elements.{All-get_or}
use Rattle.hd_hmax.specs.declared.batches.Recipe.{Recipe}
use Rattle.hd_hmax.specs.Batches.{NeedsBelow, GivesBelow}
use Rattle.hd_hmax.proofs.Following.{followed_next}
use Rattle.hd_hmax.proofs.words.follow.Goals as goal

abbrev none : Recipe
none = record { first = 0; second = 0; third = 0; fourth = 0; one = 0; other = 0 }

pub ready_for-lanes-requires : goal.ready_for-lanes-requires
ready_for-lanes-requires c = All-get_or (NeedsBelow (length c.args.old.now)) c.args.recipes.now c.loop-recipe.recipe-index none c.loop-recipe-test.true c.requires.needs

pub loop-recipe-preserved : goal.loop-recipe-preserved
loop-recipe-preserved c =
    let n = length c.args.table.now in
    let i = c.loop-recipe.recipe-index in
    let table = c.loop-recipe.table in
    let lanes = c.ready_for-lanes.result in
    let within = All-get_or (GivesBelow n) c.args.recipes.now i none c.loop-recipe-test.true c.requires.gives in
    let one = within.0 in
    let other = within.1 in
    let same = c.loop-recipe.auto.table in
    let r = get_or c.args.recipes.now i none in
    let kept = length-set table r.one (bit_or (get_or table r.one 0) lanes) in
    followed_next c.args.table.now table c.args.old.now c.args.recipes.now i lanes none c.loop-recipe-test.true (omega (arith, one, same)) (omega (arith, other, same, kept)) c.ready_for-lanes.ensures c.loop-recipe.invariant
