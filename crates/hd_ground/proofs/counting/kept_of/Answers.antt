use Rattle.std.proofs.Common.{refl}
use Rattle.hd_ground.proofs.counting.kept_of.Goals as goal

pub returns-in-Err-clause-refusal : goal.returns-in-Err-clause-refusal
returns-in-Err-clause-refusal c =
    c.stopped.ensures c.args.task.now (record { actions = 1048576; atoms = 1048576 }) refl refl c.in-Err.ensures.refusal
