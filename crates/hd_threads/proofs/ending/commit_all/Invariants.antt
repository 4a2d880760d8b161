use Rattle.std.proofs.Common.{◌≡◌, length}
use Rattle.crossbeam_queue.specs.Passes.{view}
use Rattle.hd_journal.specs.Journal.{device_of, kids_of}
use Rattle.hd_journal.specs.Moments.{IsSettled}
use Rattle.hd_threads.specs.Committing.{IsJournalKept}
use Rattle.hd_threads.specs.Growing.{JournalGrows}
use Rattle.hd_threads.specs.Outside.{IsOutsideAgain}
use Rattle.hd_threads.proofs.ending.commit_all.Given as goal

-- the pass is outside, and the journal is a beginning of what it has seen, all of which is
-- acknowledged
abbrev pub invariant-loop-round : goal.invariant-loop-round
invariant-loop-round g l = record {
  pass : IsOutsideAgain l.lock.place l.fn.pass l.pass;
  share : l.share.parts ≡ l.fn.share.parts;
  counted : l.share.amount ≡ length (kids_of l.journal);
  journal : JournalGrows l.fn.journal l.journal;
  kept : IsJournalKept (view l.fn.pass).seen.task (view l.pass).seen.log l.fn.journal l.journal;
  settled : IsSettled (device_of l.fn.journal) → IsSettled (device_of l.journal);
}
