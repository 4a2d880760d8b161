use Rattle.std.proofs.Common.{ap, ◌∙◌, arith}
use Rattle.hd_book.specs.Queue.{Queued, QueueView, without_group}
use Rattle.hd_book.proofs.Taking.{rest_is, is_queue_cut, without_group_is}
use Rattle.hd_book.proofs.queue.BatchQueue.acknowledge.Goals as goal

pub invariant_of-self : goal.invariant_of-self
invariant_of-self c =
    let q : QueueView = record { acknowledged = c.self.inside.acknowledged; ends = c.self.inside.ends.items; out = c.self.inside.out } in
    let rest = rest_is q.ends _ _ q.out _ c.rotate_left.ensures.items c.truncate.ensures.items (omega (arith, c.self.inside.ends.ok.0, c.len.ensures)) in
    is_queue_cut q _ _ c.self.invariant c.end_among-self-inside.ensures rest

pub returns : goal.returns
returns c =
    let q : QueueView = record { acknowledged = c.self.inside.acknowledged; ends = c.self.inside.ends.items; out = c.self.inside.out } in
    let rest = rest_is q.ends _ _ q.out _ c.rotate_left.ensures.items c.truncate.ensures.items (omega (arith, c.self.inside.ends.ok.0, c.len.ensures)) in
    without_group_is q _ _ c.end_among-self-inside.ensures rest ∙ ap (λ (v : Queued). without_group v.batches) c.self.view_is
