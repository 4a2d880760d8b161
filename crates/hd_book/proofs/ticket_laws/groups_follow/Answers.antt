use Rattle.hd_book.proofs.Following.{moves_lead}
use Rattle.hd_book.proofs.ticket_laws.groups_follow.Goals as goal

pub returns : goal.returns
returns g c = moves_lead
