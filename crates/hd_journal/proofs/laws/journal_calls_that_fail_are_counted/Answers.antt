use Rattle.hd_journal.proofs.Running.{counted}
use Rattle.hd_journal.proofs.laws.journal_calls_that_fail_are_counted.Goals as goal

pub returns : goal.returns
returns c = λ old new calls ran. counted old new calls ran
