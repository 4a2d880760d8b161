use Rattle.hd_store.proofs.Leaving.{filled_once}
use Rattle.hd_store.proofs.laws.a_filled_disk_is_one.Goals as goal

pub returns : goal.returns
returns c = filled_once
