use Rattle.std.proofs.Common.{refl, ◌∙◌}
use Rattle.std.proofs.lemmas.Result.{err_from_is_err_and}
use Rattle.hd_threads.proofs.Begins.{begins_along}
use Rattle.hd_threads.proofs.Growing.{grows_itself, grows_through}
use Rattle.hd_threads.proofs.Keeping.{kept_itself, kept_later, kept_through}
use Rattle.hd_threads.proofs.Later.{stops_later}
use Rattle.hd_threads.proofs.Outside.{outside_along, outside_itself}
use Rattle.hd_threads.proofs.ending.commit_all.Goals as goal

pub loop-round-init : goal.loop-round-init
loop-round-init g c = record {
  pass = outside_itself _ _ c.requires.pass;
  share = refl;
  counted = c.requires.step.counted;
  journal = grows_itself _ _ refl;
  kept = kept_itself _ _ _ c.requires.step.begins;
  settled = λ first. first;
}

pub committer_round-requires-clause-step : goal.committer_round-requires-clause-step
committer_round-requires-clause-step g c =
    let was = c.loop-round.invariant in
    record { begins = begins_along _ _ _ c.tell.ensures.pass.grows was.kept.begins; counted = was.counted }

pub loop-round-preserved-in-Flushed : goal.loop-round-preserved-in-Flushed
loop-round-preserved-in-Flushed g c =
    let was = c.loop-round.invariant in
    let told = c.tell.ensures in
    let round = c.in_ok-committer_round.ensures in
    record {
      pass = outside_along _ _ _ _ (outside_along _ _ _ _ was.pass told.pass) round.pass;
      share = round.share ∙ was.share;
      counted = round.counted;
      journal = grows_through _ _ _ was.journal round.journal;
      kept = kept_through _ _ _ _ _ _ _ (told.pass.task ∙ was.pass.task) was.journal was.settled was.kept round.kept;
      settled = λ first. round.settled (was.settled first);
    }

pub loop-round-preserved-then-not-over : goal.loop-round-preserved-then-not-over
loop-round-preserved-then-not-over g c =
    let was = c.loop-round.invariant in
    let told = c.tell.ensures in
    let round = c.in_ok-committer_round.ensures in
    let look = c.is_over-over.ensures in
    record {
      pass = outside_along _ _ _ _ (outside_along _ _ _ _ (outside_along _ _ _ _ was.pass told.pass) round.pass) look.pass;
      share = round.share ∙ was.share;
      counted = round.counted;
      journal = grows_through _ _ _ was.journal round.journal;
      kept = kept_later _ _ _ _ _ look.pass.grows (kept_through _ _ _ _ _ _ _ (told.pass.task ∙ was.pass.task) was.journal was.settled was.kept round.kept);
      settled = λ first. round.settled (was.settled first);
    }

pub loop-round-preserved : goal.loop-round-preserved
loop-round-preserved g c =
    let was = c.loop-round.invariant in
    let told = c.tell.ensures in
    let round = c.in_ok-committer_round.ensures in
    let look = c.is_over-over.ensures in
    record {
      pass = outside_along _ _ _ _ (outside_along _ _ _ _ (outside_along _ _ _ _ was.pass told.pass) round.pass) look.pass;
      share = round.share ∙ was.share;
      counted = round.counted;
      journal = grows_through _ _ _ was.journal round.journal;
      kept = kept_later _ _ _ _ _ look.pass.grows (kept_through _ _ _ _ _ _ _ (told.pass.task ∙ was.pass.task) was.journal was.settled was.kept round.kept);
      settled = λ first. round.settled (was.settled first);
    }

pub returns-then-over-clause-pass : goal.returns-then-over-clause-pass
returns-then-over-clause-pass g c =
    outside_along _ _ _ _ (outside_along _ _ _ _ c.loop-round.invariant.pass c.tell.ensures.pass) c.in_ok-committer_round.ensures.pass

pub returns-then-over-clause-journal : goal.returns-then-over-clause-journal
returns-then-over-clause-journal g c = grows_through _ _ _ c.loop-round.invariant.journal c.in_ok-committer_round.ensures.journal

pub returns-then-over-clause-kept : goal.returns-then-over-clause-kept
returns-then-over-clause-kept g c =
    let was = c.loop-round.invariant in
    kept_through _ _ _ _ _ _ _ (c.tell.ensures.pass.task ∙ was.pass.task) was.journal was.settled was.kept c.in_ok-committer_round.ensures.kept

pub returns-in_err-committer_round-clause-pass : goal.returns-in_err-committer_round-clause-pass
returns-in_err-committer_round-clause-pass g c =
    outside_along _ _ _ _ (outside_along _ _ _ _ c.loop-round.invariant.pass c.tell.ensures.pass) c.in_err-committer_round.ensures.pass

pub returns-in_err-committer_round-clause-told : goal.returns-in_err-committer_round-clause-told
returns-in_err-committer_round-clause-told g c =
    let p = err_from_is_err_and c.from_residual.result c.from_residual.ensures.1 in
    rw (p.1, p.2) (stops_later _ _ _ _ _ c.loop-round.invariant.journal c.in_err-committer_round.ensures.told)

pub returns-in_err-committer_round-clause-kept : goal.returns-in_err-committer_round-clause-kept
returns-in_err-committer_round-clause-kept g c =
    let was = c.loop-round.invariant in
    kept_through _ _ _ _ _ _ _ (c.tell.ensures.pass.task ∙ was.pass.task) was.journal was.settled was.kept c.in_err-committer_round.ensures.kept
