use Rattle.std.proofs.Common.{◌≡◌, ◌+◌, ◌≤◌, length, min}
use Rattle.std.specs.List.{AllByRecursion}
use Rattle.std.specs.VecDeque.{deque_len, deque_capacity}
use Rattle.hd_entries.specs.Holding.{IsParcelOf}
use Rattle.hd_base.specs.Lists.{BeginsWith}
use Rattle.hd_worker.specs.Nodes.{AreMet, IsNodeOf, waiting_by}
use Rattle.hd_worker.proofs.arriving.open_some.Given as goal

-- the nodes that are open, and the parcels that are left
abbrev pub invariant-loop-rest : goal.invariant-loop-rest
invariant-loop-rest l = record {
  same_task : l.known.task ≡ l.fn.known.task;
  closed : l.known.closed ≡ l.fn.known.closed;
  begins : BeginsWith l.known.states l.fn.known.states;
  estimates : l.estimates.task ≡ l.fn.estimates.task;
  nodes : AllByRecursion (IsNodeOf l.fn.known.task l.known.states) l.nodes.nodes;
  parcels : AllByRecursion (IsParcelOf l.fn.known.task) l.fresh.items;
  waiting : waiting_by l.known.states l.nodes.nodes l.fresh.items ≡ waiting_by l.fn.known.states l.fn.nodes.nodes l.fn.fresh.items;
  met : AreMet l.known.states l.fresh.items l.rest;
  counted : length l.fresh.items + min l.most (length l.fn.fresh.items) ≡ length l.fn.fresh.items + length l.rest;
  fewer : deque_len l.fresh ≤ deque_len l.fn.fresh;
  capacity : deque_capacity l.fresh ≡ deque_capacity l.fn.fresh;
}

abbrev pub decreases-loop-rest : goal.decreases-loop-rest
decreases-loop-rest l = length l.rest
