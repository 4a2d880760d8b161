use Rattle.std.proofs.Common.{◌≡◌, length}
use Rattle.hd_base.specs.Lists.{BeginsWith}
use Rattle.hd_worker.specs.Nodes.{AreMet}
use Rattle.hd_worker.proofs.arriving.meet_some.Given as goal

-- the states so far are met, and stand at the places so far
abbrev pub invariant-loop-number : goal.invariant-loop-number
invariant-loop-number l = record {
  same_task : l.known.task ≡ l.fn.known.task;
  closed : l.known.closed ≡ l.fn.known.closed;
  begins : BeginsWith l.known.states l.fn.known.states;
  met : AreMet l.known.states l.fn.fresh.items l.places.items;
  counted : length l.places.items ≡ l.number;
}
