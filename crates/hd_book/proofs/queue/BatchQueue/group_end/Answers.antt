use Rattle.std.proofs.Common.{ap, ◌∙◌}
use Rattle.hd_book.specs.Queue.{Queued, group_end}
use Rattle.hd_book.proofs.queue.BatchQueue.group_end.Goals as goal

pub returns : goal.returns
returns c = c.end_among.ensures ∙ ap (λ (v : Queued). group_end v.batches) c.self.view_is
