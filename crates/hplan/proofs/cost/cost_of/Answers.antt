use Rattle.std.proofs.Common.{[], refl}
use Rattle.hd_task.specs.Plans.{start}
use Rattle.hd_task.proofs.Runs.{exec-state}
use Rattle.hplan.proofs.cost.cost_of.Goals as goal

pub loop-rest-init : goal.loop-rest-init
unfolding start
loop-rest-init c =
    rw (c.in_ok-state.ensures, c.as_slice-rest.ensures)
    (record { of_task = exec-state c.args.task.now [] (start c.args.task.now) refl; ends = refl; through = refl })
