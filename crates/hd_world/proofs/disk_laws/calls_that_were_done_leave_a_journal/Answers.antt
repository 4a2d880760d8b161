use Rattle.std.proofs.Common.{refl}
use Rattle.hd_world.proofs.Opened.{appended_content, opened_content, opened_settled}
use Rattle.hd_world.proofs.disk_laws.calls_that_were_done_leave_a_journal.Goals as goal

pub returns : goal.returns
returns c = record {
  opened = λ digest content calls f len o. opened_content digest content calls f len o;
  opened_surely = λ digest content calls f len o. opened_settled digest content calls f len o;
  appended = λ digest f next. appended_content digest f next;
  appended_surely = λ digest f next. refl;
}
