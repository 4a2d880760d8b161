use Rattle.std.proofs.Common.{◌≡◌, List, ℕ, subst}
use Rattle.hd_store.specs.Device.{content_of}
use Rattle.hd_store.specs.MemoryDisk.{device_of}
use Rattle.hd_store.proofs.Leaving.{filled_once}
use Rattle.hd_replay.specs.Playing.{IsReported}
use Rattle.hd_replay.proofs.replaying.replay.Goals as goal

pub returns-clause-reported : goal.returns-clause-reported
returns-clause-reported c = λ content filled.
    let held = c.in_ok-held.ensures.left in
    let old = device_of c.args.disk.now in
    let same : held.0 ≡ content = filled_once old.start old.steps 0 held.0 content held.1 filled in
    subst (λ (first : List ℕ). IsReported c.args.task.now c.args.digest.now first c.args.moves.now (content_of (device_of c.in_ok-left.left)) c.in_ok-left.report) same
    (c.in_ok-left.ensures held.0 held.2)
