use Rattle.std.proofs.Common.{◌≡◌}
use Rattle.hd_desk.specs.Hands.{IsFor, parts_of}
use Rattle.threads_tests.proofs.mail.fill.Given as goal

abbrev pub invariant-loop-number : goal.invariant-loop-number
invariant-loop-number g l = record {
  of : IsFor l.boxes l.hands;
  same : l.hands.of ≡ l.initial.hands.of;
  parts : parts_of l.hands ≡ parts_of l.initial.hands;
}
