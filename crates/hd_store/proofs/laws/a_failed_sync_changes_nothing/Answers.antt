use Rattle.hd_store.proofs.Leaving.{as_before}
use Rattle.hd_store.proofs.laws.a_failed_sync_changes_nothing.Goals as goal

pub returns : goal.returns
returns c = as_before
