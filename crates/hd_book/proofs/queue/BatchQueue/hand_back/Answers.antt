use Rattle.std.proofs.Common.{ap, arith}
use Rattle.hd_book.specs.Queue.{Queued, with_none_out}
use Rattle.hd_book.proofs.queue.BatchQueue.hand_back.Goals as goal

pub invariant_of-self : goal.invariant_of-self
invariant_of-self c = record { batches = c.self.invariant.batches; out = omega arith }

pub returns : goal.returns
returns c = ap (λ (v : Queued). with_none_out v.batches) c.self.view_is
