use Rattle.hplan.proofs.Standing.{kept_begins, kept_unrefused}
use Rattle.hplan.proofs.laws.commands_go_on_with_what_stood.Goals as goal

pub returns : goal.returns
returns c = record { unrefused = kept_unrefused; begins = kept_begins }
