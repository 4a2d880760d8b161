use Rattle.std.proofs.Common.{◌≡◌, ◌+◌, ◌<◌, ◌≤◌, ◌^◌, ◌++◌, map, filter, length}
use Rattle.std.specs.List.{AllByRecursion}
use Rattle.std.specs.Vec.Iter.{into_iter_items}
use Rattle.std.specs.VecDeque.{deque_len, deque_capacity}
use Rattle.hd_entries.specs.Growing.{successor_count}
use Rattle.hd_entries.specs.Settling.{IsOutcomeOfTask}
use Rattle.hd_entries.specs.Holding.{parcel_of, released_by, IsParcelOf}
use Rattle.hd_turns.specs.Worker.{is_own, is_foreign}
use Rattle.hd_worker.specs.Frontier.{opens}
use Rattle.hd_worker.proofs.releasing.place_all.Given as goal

-- the successors of the outcomes that are left, and room for them
abbrev pub invariant-loop-outcome : goal.invariant-loop-outcome
invariant-loop-outcome l = record {
  frontier : opens (is_own l.who.id l.who.workers) (released_by l.entry (into_iter_items l.outcome-iterator)) l.frontier ≡ opens (is_own l.who.id l.who.workers) l.fn.parcels.kids l.fn.frontier;
  outbox : map parcel_of l.outbox.items ++ filter (is_foreign l.who.id l.who.workers) (released_by l.entry (into_iter_items l.outcome-iterator)) ≡ map parcel_of l.fn.outbox.items ++ filter (is_foreign l.who.id l.who.workers) l.fn.parcels.kids;
  same_task : l.frontier.task ≡ l.fn.frontier.task;
  of_task : AllByRecursion (IsOutcomeOfTask l.fn.frontier.task) (into_iter_items l.outcome-iterator);
  numbered : l.entry + length (into_iter_items l.outcome-iterator) < 2 ^ 64;
  room : successor_count (into_iter_items l.outcome-iterator) ≤ l.frontier.room;
  outbox_room : deque_len l.outbox + l.frontier.room ≤ deque_len l.fn.outbox + l.fn.frontier.room;
  parcels : AllByRecursion (IsParcelOf l.fn.frontier.task) l.outbox.items;
  capacity : deque_capacity l.outbox ≡ deque_capacity l.fn.outbox;
}
