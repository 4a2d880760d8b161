use Rattle.std.proofs.Common.{subst}
use Rattle.hd_open.specs.Queue.{IsCleared}
use Rattle.hd_open.proofs.Queueing.{queued_cleared, single_less, below_less, best_found, none_found}
use Rattle.hd_open.proofs.slots.best_arrival.Goals as goal

pub returns-clause-kept : goal.returns-clause-kept
returns-clause-kept g c =
    queued_cleared g.T.Waits.total c.args.slots.now c.args.counts.now.marks.items c.args.queue.now c.first.new.self c.requires.marked c.requires.queued
    (subst (λ ws. IsCleared ws c.args.queue.now c.first.new.self) c.as_slice.ensures.value c.first.ensures.cleared)

pub returns-clause-orderly : goal.returns-clause-orderly
returns-clause-orderly g c = c.first.ensures.cleared.orderly

pub returns-clause-single : goal.returns-clause-single
returns-clause-single g c = single_less c.args.queue.now c.first.new.self c.requires.single c.first.ensures.cleared.only

pub returns-clause-latest : goal.returns-clause-latest
returns-clause-latest g c = below_less c.args.queue.now c.first.new.self _ c.requires.latest c.first.ensures.cleared.only

pub returns-clause-best : goal.returns-clause-best
returns-clause-best g c =
    best_found g.T.Waits.total c.args.slots.now c.args.counts.now.marks.items c.as_slice.result.now c.first.new.self c.first.result c.requires.marked
    c.as_slice.ensures.value (returns-clause-kept g c) (returns-clause-single g c) c.first.ensures.first

pub returns-clause-none : goal.returns-clause-none
returns-clause-none g c = none_found g.T.Waits.total c.args.slots.now c.first.new.self c.first.result (returns-clause-kept g c) c.first.ensures.none
