use Rattle.std.proofs.Common.{◌≡◌}
use Rattle.hd_desk.specs.Hands.{IsFor}
use Rattle.probes.proofs.mail.receive.Given as goal

-- the hands stay those of the mailbox
abbrev pub invariant-loop-done : goal.invariant-loop-done
invariant-loop-done l = record {
  of : IsFor l.boxes l.hands;
  same : l.hands.of ≡ l.initial.hands.of;
}
