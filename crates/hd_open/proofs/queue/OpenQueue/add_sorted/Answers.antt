use Rattle.std.proofs.Common.{refl}
use Rattle.hd_open.proofs.Queueing.{added_large}
use Rattle.hd_open.proofs.queue.OpenQueue.add_sorted.Goals as goal

pub returns-clause-orderly : goal.returns-clause-orderly
returns-clause-orderly c =
    let q = c.args.self.now in
    (added_large q (record { alloc = q.alloc; small = q.small; least = q.least; large = c.insert.new.self; dead = q.dead }) c.args.total c.args.arrival
    c.requires.orderly c.requires.no_bucket c.in_ok-insert.ensures.updates refl refl refl c.in_ok-insert.ensures.updates.1).orderly

pub returns-clause-stays : goal.returns-clause-stays
returns-clause-stays c =
    let q = c.args.self.now in
    (added_large q (record { alloc = q.alloc; small = q.small; least = q.least; large = c.insert.new.self; dead = q.dead }) c.args.total c.args.arrival
    c.requires.orderly c.requires.no_bucket c.in_ok-insert.ensures.updates refl refl refl c.in_ok-insert.ensures.updates.1).stays

pub returns-clause-only : goal.returns-clause-only
returns-clause-only c =
    let q = c.args.self.now in
    (added_large q (record { alloc = q.alloc; small = q.small; least = q.least; large = c.insert.new.self; dead = q.dead }) c.args.total c.args.arrival
    c.requires.orderly c.requires.no_bucket c.in_ok-insert.ensures.updates refl refl refl c.in_ok-insert.ensures.updates.1).only
