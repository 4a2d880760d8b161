use Rattle.hd_book.proofs.Following.{moves_cut}
use Rattle.hd_book.proofs.ticket_laws.batches_stay_whole.Goals as goal

pub returns : goal.returns
returns g c = moves_cut
