use Rattle.std.proofs.Common.{◌≡◌, ◌++◌, List, map, length}
use Rattle.std.specs.List.{AllByRecursion}
use Rattle.std.specs.Vec.Iter.{into_iter_items, into_iter_len}
use Rattle.hd_task.specs.declared.plan.Kid.{Kid}
use Rattle.hd_threads.specs.Placing.{IsReadyAt}
use Rattle.hd_search.specs.Opening.{IsFresh, HasSeatsLeft, HasSeenStart}
use Rattle.hd_search.proofs.opening.places_of.Given as goal

-- the workers so far are at their places, and there is room for the others
abbrev pub invariant-loop-worker : goal.invariant-loop-worker
invariant-loop-worker g l = record {
  left : into_iter_len l.worker-iterator ≡ length (into_iter_items l.worker-iterator);
  fresh : AllByRecursion (IsFresh l.task) (into_iter_items l.worker-iterator);
  room :
      (log : List Kid) → HasSeatsLeft l.task log l.desk (length l.fn.workers.items) l.fn.rest
      → HasSeatsLeft l.task log l.desk (length (into_iter_items l.worker-iterator)) l.rest;
  each : AllByRecursion (IsReadyAt l.desk) l.places.items;
  seen : AllByRecursion (HasSeenStart l.desk) l.places.items;
  same : map (λ p. p.worker) l.places.items ++ into_iter_items l.worker-iterator ≡ l.fn.workers.items;
}
