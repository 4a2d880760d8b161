use Rattle.std.proofs.Common.{◌∙◌}
use Rattle.hd_threads.proofs.Begins.{begins_along}
use Rattle.hd_threads.proofs.Keeping.{kept_itself, kept_of}
use Rattle.hd_threads.proofs.Outside.{outside_along}
use Rattle.hd_threads.proofs.committing.committer_round.Goals as goal

pub returns-in_err-room-clause-kept : goal.returns-in_err-room-clause-kept
returns-in_err-room-clause-kept g c =
    kept_itself _ _ _ (begins_along _ _ _ c.in_err-room.ensures.pass.grows c.requires.step.begins)

pub append_group-requires-clause-step : goal.append_group-requires-clause-step
append_group-requires-clause-step g c = record {
  begins = begins_along _ _ _ c.take_group.ensures.pass.grows (begins_along _ _ _ c.in_ok-room.ensures.pass.grows c.requires.step.begins);
  counted = c.take_group.ensures.amount ∙ c.requires.step.counted;
}

pub returns-in-Ok-clause-kept : goal.returns-in-Ok-clause-kept
returns-in-Ok-clause-kept g c =
    kept_of _ _ _ _ _ (c.take_group.ensures.pass.task ∙ c.in_ok-room.ensures.pass.task) c.append_group.ensures.kept

pub returns-in-Err-clause-kept : goal.returns-in-Err-clause-kept
returns-in-Err-clause-kept g c =
    kept_itself _ _ _ (begins_along _ _ _ c.take_group.ensures.pass.grows (begins_along _ _ _ c.in_ok-room.ensures.pass.grows c.requires.step.begins))

pub returns-in-Ok-clause-pass : goal.returns-in-Ok-clause-pass
returns-in-Ok-clause-pass g c =
    outside_along _ _ _ _ (outside_along _ _ _ _ c.in_ok-room.ensures.pass c.take_group.ensures.pass) c.append_group.ensures.pass

pub returns-in-Err-clause-pass : goal.returns-in-Err-clause-pass
returns-in-Err-clause-pass g c = outside_along _ _ _ _ c.in_ok-room.ensures.pass c.take_group.ensures.pass
