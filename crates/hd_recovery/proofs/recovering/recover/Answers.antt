use Rattle.std.proofs.Common.{map}
use Rattle.hd_journal.specs.Journal.{kid_of}
use Rattle.hd_recovery.proofs.recovering.recover.Goals as goal

pub returns-clause-workers : goal.returns-clause-workers
returns-clause-workers g c =
    c.in_ok-workers.ensures c.args.most (map kid_of c.args.entries.now) c.in_ok-book.ensures.book
