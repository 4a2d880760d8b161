use Rattle.hd_world.proofs.Journals.{journal_kids, next_same, calls_same}
use Rattle.hd_world.proofs.disk_laws.the_journal_of_a_run_is_a_journal.Goals as goal

pub returns : goal.returns
returns c s = record {
  entries = λ digest f is. journal_kids digest f _ is;
  next = λ digest f g is version. next_same digest f _ is version g;
  calls = λ digest f g is version next. calls_same digest f _ is version g next;
}
