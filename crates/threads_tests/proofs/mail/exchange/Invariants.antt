use Rattle.std.proofs.Common.{◌≡◌, ◌≤◌}
use Rattle.hd_desk.specs.Hands.{IsFor}
use Rattle.threads_tests.specs.declared.mail.TheConstants.{SENT}
use Rattle.threads_tests.proofs.mail.exchange.Given as goal

abbrev pub invariant-loop : goal.invariant-loop
invariant-loop g l = record {
  of : IsFor l.boxes l.hands;
  same : l.hands.of ≡ l.initial.hands.of;
  sent : l.sent ≤ SENT;
  came : l.came ≤ SENT;
}
