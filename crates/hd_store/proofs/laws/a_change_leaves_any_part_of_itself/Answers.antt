use Rattle.hd_store.proofs.Leaving.{write_torn, cut_torn}
use Rattle.hd_store.proofs.laws.a_change_leaves_any_part_of_itself.Goals as goal

pub returns : goal.returns
returns c = record { write = write_torn; cut = cut_torn }
