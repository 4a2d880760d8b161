use Rattle.std.proofs.Common.{subst}
use Rattle.hd_store.specs.Device.{Device}
use Rattle.hd_journal.specs.Answers.{IsNotAppended}
use Rattle.hd_world.specs.Filling.{Filled}
use Rattle.hd_replay.proofs.Restarts.{append_cut, never_appended}
use Rattle.hd_replay.proofs.ending.append_until.Goals as goal

pub returns-in_ok-settled-in-Ok : goal.returns-in_ok-settled-in-Ok
returns-in_ok-settled-in-Ok c = λ digest f call some few s.
    absurd (never_appended digest f c.args.group call c.args.journal c.append.new.self s some few c.in-Ok.ensures.appended)

pub returns-in_ok-settled-in-Err-default-Device : goal.returns-in_ok-settled-in-Err-default-Device
returns-in_ok-settled-in-Err-default-Device c = λ digest f call some few s.
    let e = c.in-Err-default-Device in
    let left = c.in_ok-settled-in-Err-default-Device.ensures in
    append_cut digest f c.args.group call c.args.journal c.append.new.self s c.args.byte c.in_ok-settled-in-Err-default-Device.field-0 left.0 some
    (subst (λ error. IsNotAppended c.args.journal c.args.group error c.append.new.self) e.field-0-1-is e.ensures.refused)
    (subst (λ (d : Device). Filled d c.args.byte left.0) c.into_store-in-Err-default-Device.ensures left.1) left.2
