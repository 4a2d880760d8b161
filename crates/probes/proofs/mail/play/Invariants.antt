use Rattle.std.proofs.Common.{◌≡◌}
use Rattle.hd_desk.specs.Hands.{IsFor}
use Rattle.probes.specs.declared.mail.TheConstants.{OF}
use Rattle.probes.proofs.mail.play.Given as goal

-- the hands stay those of the mailbox
abbrev pub invariant-loop-step : goal.invariant-loop-step
invariant-loop-step l = record {
  of : IsFor l.boxes l.hands;
  fits : l.hands.of ≡ OF;
}
