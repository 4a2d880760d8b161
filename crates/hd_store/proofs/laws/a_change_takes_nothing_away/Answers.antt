use Rattle.hd_store.proofs.Leaving.{write_widens, cut_widens}
use Rattle.hd_store.proofs.laws.a_change_takes_nothing_away.Goals as goal

pub returns : goal.returns
returns c = record { write = write_widens; cut = cut_widens }
