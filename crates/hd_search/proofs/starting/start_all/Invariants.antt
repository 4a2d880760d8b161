use Rattle.std.proofs.Common.{◌≡◌, ◌+◌, length}
use Rattle.std.specs.List.{AllByRecursion}
use Rattle.std.specs.Vec.Iter.{into_iter_items, into_iter_len}
use Rattle.hd_threads.specs.Placing.{IsReadyAt}
use Rattle.hd_search.specs.Fault.{AreThreadsInOrder}
use Rattle.hd_search.specs.Opening.{AreWorkersInOrder}
use Rattle.hd_search.proofs.starting.start_all.Given as goal

-- the places that are left are those of the workers from the next number on
abbrev pub invariant-loop-place : goal.invariant-loop-place
invariant-loop-place g l = record {
  left : into_iter_len l.place-iterator ≡ length (into_iter_items l.place-iterator);
  each : AllByRecursion (IsReadyAt l.desk) (into_iter_items l.place-iterator);
  numbered : AreWorkersInOrder l.id l.workers (into_iter_items l.place-iterator);
  count : l.id + length (into_iter_items l.place-iterator) ≡ l.workers;
  order : AreThreadsInOrder 0 l.threads.items;
  many : length l.threads.items ≡ l.id;
}
