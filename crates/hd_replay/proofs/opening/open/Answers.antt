use Rattle.std.proofs.Common.{sym, ap, subst}
use Rattle.hd_store.specs.Device.{Device, content_of}
use Rattle.hd_store.specs.MemoryDisk.{device_of}
use Rattle.hd_journal.specs.Moments.{IsSettled}
use Rattle.hd_replay.proofs.Restarts.{opened_whole}
use Rattle.hd_replay.proofs.opening.open.Goals as goal

pub returns-in-Ok : goal.returns-in-Ok
returns-in-Ok c = λ content started.
    opened_whole c.args.digest.now content (device_of c.args.disk) c.in-Ok.journal (ap content_of started) c.in-Ok.ensures.opened c.in-Ok.ensures.whole
    (c.in-Ok.ensures.settled (subst IsSettled (sym started) tt))
