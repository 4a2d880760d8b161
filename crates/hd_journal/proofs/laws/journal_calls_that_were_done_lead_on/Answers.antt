use Rattle.hd_journal.proofs.Running.{led_on}
use Rattle.hd_journal.proofs.laws.journal_calls_that_were_done_lead_on.Goals as goal

pub returns : goal.returns
returns c = λ old new calls ran. led_on old new calls ran
