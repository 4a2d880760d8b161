use Rattle.hd_task.proofs.Growing.{legal_take, legal_push}
use Rattle.hd_task.proofs.laws.legal_lists.Goals as goal

pub returns : goal.returns
returns c = record { beginning = legal_take; one_more = legal_push }
