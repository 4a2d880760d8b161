use Rattle.std.proofs.Common.{ℕ, List, ap, ◌∙◌, arith}
use Rattle.std.proofs.lemmas.List.{take_all}
use Rattle.hd_book.specs.Queue.{Queued, end_of, entries_in_all}
use Rattle.hd_book.proofs.queue.BatchQueue.entries.Goals as goal

pub returns : goal.returns
returns c =
    let q = c.self.inside in
    c.end_among.ensures
    ∙ (ap (λ (ends : List ℕ). end_of q.acknowledged ends) (take_all _ q.ends.items (omega (arith, q.ends.ok.0, c.len.ensures)))
    ∙ ap (λ (v : Queued). entries_in_all v.batches) c.self.view_is)
