use Rattle.hd_journal.proofs.Standing.{stands_not_refused, making_not_refused}
use Rattle.hd_journal.proofs.laws.journals_after_a_stop_are_not_refused.Goals as goal

pub returns : goal.returns
returns c = record {
  groups = λ v digest groups content error len stands refused. stands_not_refused v digest groups content error len stands refused;
  making = λ v digest content error len making refused. making_not_refused v digest content error len making refused;
}
