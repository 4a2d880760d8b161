use Rattle.hd_hmax.proofs.Following.{ready_is}
use Rattle.hd_hmax.proofs.words.ready_for.Goals as goal

pub returns : goal.returns
returns c j = ready_is c.args.table.now c.args.recipe.now j
