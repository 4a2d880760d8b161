use Rattle.hd_recovery.proofs.Truth.{legal_kept, all_kids, all_entries}
use Rattle.hd_recovery.proofs.laws.all_is_recovered.Goals as goal

pub returns : goal.returns
returns c = record {
  closed = λ t entries short legal. all_entries t entries (legal_kept t entries short legal);
  «open» = λ t entries short legal. all_kids t entries (legal_kept t entries short legal);
}
