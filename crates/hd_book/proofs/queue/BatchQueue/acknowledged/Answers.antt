use Rattle.std.proofs.Common.{◌≤◌, subst}
use Rattle.hd_book.specs.Queue.{Queued, entries_in_all}
use Rattle.hd_book.proofs.Ends.{end_of_above}
use Rattle.hd_book.proofs.queue.BatchQueue.acknowledged.Goals as goal

pub returns-clause-few : goal.returns-clause-few
returns-clause-few c =
    let q = c.self.inside in
    subst (λ (v : Queued). q.acknowledged ≤ entries_in_all v.batches) c.self.view_is (end_of_above q.acknowledged q.ends.items c.self.invariant.batches)
