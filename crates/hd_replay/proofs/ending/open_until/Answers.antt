use Rattle.std.proofs.Common.{◌≡◌, ◌-◌, List, ℕ, [], length, rules, sym, ap, subst, ◌∙◌}
use Rattle.hd_image.specs.declared.header.TheConstants.{DIGEST_LEN}
use Rattle.hd_store.specs.Device.{Device, content_of}
use Rattle.hd_store.specs.MemoryDisk.{device_of}
use Rattle.hd_world.specs.Stops.{journal_bytes}
use Rattle.hd_replay.proofs.Restarts.{left_bytes, stands_in, sound_groups, planned_by, stopping_now}
use Rattle.hd_replay.proofs.Stopping.{planned}
use Rattle.hd_replay.proofs.ending.open_until.Goals as goal

pub returns-in-Ok : goal.returns-in-Ok
returns-in-Ok c = λ f s.
    let digest = c.args.digest.now in
    let len : length digest ≡ DIGEST_LEN = search rules in
    let left = c.in_ok-disk.ensures in
    let bytes = left_bytes digest f c.args.journal s (device_of c.into_store.result) c.args.at.byte left.0 c.into_store.ensures left.1 in
    let plan : device_of c.stop_at.new.self ≡ planned (journal_bytes digest f) [] (c.args.at.call - 1) =
    planned_by (device_of c.in_ok-disk.disk) (device_of c.stop_at.new.self) left.0 (journal_bytes digest f) c.from.result c.args.at.call left.2 c.stop_at.ensures bytes c.from.ensures in
    let again = c.in-Ok.ensures.groups f.version f.groups (stands_in digest f c.args.journal s (content_of (device_of c.stop_at.new.self)) (ap content_of plan)) in
    stopping_now digest f c.args.at.call (device_of c.stop_at.new.self) c.in-Ok.journal len (sound_groups digest f c.args.journal s) plan c.in-Ok.ensures.opened again.0 again.1
