use Rattle.std.proofs.Common.{ℕ, ◌==◌, ap, ◌∙◌}
use Rattle.hd_book.specs.Queue.{Queued, is_idle}
use Rattle.hd_book.proofs.queue.BatchQueue.is_idle.Goals as goal

pub returns : goal.returns
returns c =
    c.is_empty.ensures
    ∙ (ap (λ (n : ℕ). n == 0) c.self.inside.ends.ok.0 ∙ ap (λ (v : Queued). is_idle v.batches) c.self.view_is)
