use Rattle.std.proofs.Common.{ℕ, List, sym, subst, arith}
use Rattle.hd_book.specs.Queue.{IsQueue}
use Rattle.hd_book.proofs.queue.BatchQueue.new.Goals as goal

pub invariant_of-result : goal.invariant_of-result
invariant_of-result c =
    subst (λ (ends : List ℕ). IsQueue (record { acknowledged = c.args.acknowledged; ends = ends; out = 0 })) (sym c.new.ensures.items) (record { batches = tt; out = omega arith })
