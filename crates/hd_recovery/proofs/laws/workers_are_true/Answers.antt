use Rattle.hd_recovery.proofs.Truth.{legal_kept, worker_true}
use Rattle.hd_recovery.proofs.laws.workers_are_true.Goals as goal

pub returns : goal.returns
returns c = λ t entries id workers short legal. worker_true t entries (legal_kept t entries short legal) id workers
