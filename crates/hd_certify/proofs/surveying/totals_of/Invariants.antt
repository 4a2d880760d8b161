use Rattle.std.proofs.Common.{◌≡◌, take}
use Rattle.hd_base.specs.Lists.{BeginsWith}
use Rattle.hd_entries.specs.Settling.{expansions}
use Rattle.hd_certify.specs.Survey.{totals_of}
use Rattle.hd_certify.proofs.surveying.totals_of.Given as goal

-- the totals so far
abbrev pub invariant-loop-number : goal.invariant-loop-number
invariant-loop-number l = record {
  closed_task : l.closed.task ≡ l.fn.closed.task;
  begins : BeginsWith l.closed.states l.fn.closed.states;
  closed : l.closed.closed ≡ l.fn.closed.closed;
  estimates_task : l.estimates.task ≡ l.fn.estimates.task;
  totals : l.totals.items ≡ totals_of l.entries.state.task (take l.number (expansions l.entries.state));
}
