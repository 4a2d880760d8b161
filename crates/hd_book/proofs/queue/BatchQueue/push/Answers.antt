use Rattle.std.proofs.Common.{ℕ, ◌+◌, sym, ap, ◌∙◌, arith}
use Rattle.hd_book.specs.Queue.{Queued, QueueView, entries_in_all, with_batch}
use Rattle.hd_book.proofs.Taking.{with_batch_none, with_batch_some, is_queue_pushed}
use Rattle.hd_book.proofs.queue.BatchQueue.push.Goals as goal

pub returns-then-count-eq0 : goal.returns-then-count-eq0
returns-then-count-eq0 c = sym (with_batch_none c.args.self.now.batches c.args.count c.if-count-eq0.true)

pub invariant_of-self : goal.invariant_of-self
invariant_of-self c =
    let q : QueueView = record { acknowledged = c.self.inside.acknowledged; ends = c.self.inside.ends.items; out = c.self.inside.out } in
    let at = c.entries.ensures ∙ sym (ap (λ (v : Queued). entries_in_all v.batches) c.self.view_is) in
    is_queue_pushed q c.args.count _ _ c.self.invariant (omega arith) c.requires.few (ap (λ (n : ℕ). n + c.args.count) at) c.push_back_reserved.ensures.items

pub returns : goal.returns
returns c =
    let q : QueueView = record { acknowledged = c.self.inside.acknowledged; ends = c.self.inside.ends.items; out = c.self.inside.out } in
    let at = c.entries.ensures ∙ sym (ap (λ (v : Queued). entries_in_all v.batches) c.self.view_is) in
    with_batch_some q c.args.count _ _ (omega arith) (ap (λ (n : ℕ). n + c.args.count) at) c.push_back_reserved.ensures.items
    ∙ ap (λ (v : Queued). with_batch c.args.count v.batches) c.self.view_is
