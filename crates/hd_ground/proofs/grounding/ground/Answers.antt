use Rattle.std.proofs.Common.{sym, subst}
use Rattle.hd_lifted.specs.Checked.{IsChecked}
use Rattle.hd_ground.proofs.grounding.ground.Goals as goal

pub ground_with-task-requires : goal.ground_with-task-requires
ground_with-task-requires c =
    let known = c.task.ensures in
    subst IsChecked (sym c.in_ok-lookups.ensures)
    (record { well_formed = known.well_formed; names = known.names; values = known.values; metric = known.metric; no_metric = known.no_metric })
