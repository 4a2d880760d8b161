use Rattle.std.proofs.Common.{◌≡◌, ◌+◌, ◌≤◌, ◌++◌, map, filter, length}
use Rattle.std.specs.List.{AllByRecursion}
use Rattle.std.specs.Vec.Iter.{into_iter_items}
use Rattle.std.specs.VecDeque.{deque_len, deque_capacity}
use Rattle.hd_task.specs.Plans.{IsStateOf}
use Rattle.hd_node.specs.Children.{ChildView}
use Rattle.hd_entries.specs.Holding.{parcel_of, released_from, IsParcelOf}
use Rattle.hd_turns.specs.Worker.{is_own, is_foreign}
use Rattle.hd_worker.specs.Frontier.{opens}
use Rattle.hd_worker.proofs.releasing.place_children.Given as goal

-- the children that are left, and room for them
abbrev pub invariant-loop-child : goal.invariant-loop-child
invariant-loop-child l = record {
  frontier : opens (is_own l.who.id l.who.workers) (map (released_from l.entry) (into_iter_items l.child-iterator)) l.frontier ≡ opens (is_own l.who.id l.who.workers) (map (released_from l.entry) l.fn.children) l.fn.frontier;
  outbox : map parcel_of l.outbox.items ++ filter (is_foreign l.who.id l.who.workers) (map (released_from l.entry) (into_iter_items l.child-iterator)) ≡ map parcel_of l.fn.outbox.items ++ filter (is_foreign l.who.id l.who.workers) (map (released_from l.entry) l.fn.children);
  same_task : l.frontier.task ≡ l.fn.frontier.task;
  of_task : AllByRecursion (λ (c : ChildView). IsStateOf l.fn.frontier.task c.state) (into_iter_items l.child-iterator);
  room : length (into_iter_items l.child-iterator) ≤ l.frontier.room;
  outbox_room : deque_len l.outbox + l.frontier.room ≤ deque_len l.fn.outbox + l.fn.frontier.room;
  parcels : AllByRecursion (IsParcelOf l.fn.frontier.task) l.outbox.items;
  capacity : deque_capacity l.outbox ≡ deque_capacity l.fn.outbox;
}
