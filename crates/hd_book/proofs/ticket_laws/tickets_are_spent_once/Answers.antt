use Rattle.hd_book.proofs.Following.{spent_once}
use Rattle.hd_book.proofs.ticket_laws.tickets_are_spent_once.Goals as goal

pub returns : goal.returns
returns g c = spent_once
