use Rattle.std.proofs.Math.Logic.{∥∥₁_elim}
use Rattle.std.proofs.Props.{props}
use Rattle.hd_hmax.proofs.Compiling.{bring_right}
use Rattle.hd_hmax.proofs.Following.{all_paid}
use Rattle.hd_hmax.proofs.levels.bring_paid.Goals as goal

pub returns-clause-shut : goal.returns-clause-shut
returns-clause-shut c q j h inside some cheap all p m =
    let r = c.args.rules.now in
    let t = r.task.now in
    let right = bring_right t r.askers r.counts.items r.brings r.of_task.transposed r.of_task.brought in
    ∥∥₁_elim r.batched (hlevel props)
    (λ are.
    all_paid t r.needs r.brings c.args.tables.now r.batches.recipes.items r.batches.rest.items right r.asks are c.args.level c.bring_batches.new.room.items c.bring_rest.new.room.items
    c.bring_batches.ensures.followed c.bring_rest.ensures.kept c.bring_rest.ensures.shut q j h inside some cheap all p m)
