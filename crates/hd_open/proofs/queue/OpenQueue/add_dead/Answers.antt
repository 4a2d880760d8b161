use Rattle.std.proofs.Common.{refl}
use Rattle.hd_open.proofs.Queueing.{added_dead}
use Rattle.hd_open.proofs.queue.OpenQueue.add_dead.Goals as goal

pub returns-clause-orderly : goal.returns-clause-orderly
returns-clause-orderly c =
    let q = c.args.self.now in
    (added_dead q (record { alloc = q.alloc; small = q.small; least = q.least; large = q.large; dead = c.push.new.self }) c.args.arrival
    c.requires.orderly c.requires.latest c.in_ok-push.ensures.ok refl refl refl).orderly

pub returns-clause-added : goal.returns-clause-added
returns-clause-added c =
    let q = c.args.self.now in
    (added_dead q (record { alloc = q.alloc; small = q.small; least = q.least; large = q.large; dead = c.push.new.self }) c.args.arrival
    c.requires.orderly c.requires.latest c.in_ok-push.ensures.ok refl refl refl).added

pub returns-clause-stays : goal.returns-clause-stays
returns-clause-stays c =
    let q = c.args.self.now in
    (added_dead q (record { alloc = q.alloc; small = q.small; least = q.least; large = q.large; dead = c.push.new.self }) c.args.arrival
    c.requires.orderly c.requires.latest c.in_ok-push.ensures.ok refl refl refl).stays

pub returns-clause-only : goal.returns-clause-only
returns-clause-only c =
    let q = c.args.self.now in
    (added_dead q (record { alloc = q.alloc; small = q.small; least = q.least; large = q.large; dead = c.push.new.self }) c.args.arrival
    c.requires.orderly c.requires.latest c.in_ok-push.ensures.ok refl refl refl).only
