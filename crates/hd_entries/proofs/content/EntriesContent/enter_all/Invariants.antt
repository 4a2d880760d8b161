use Rattle.std.proofs.Common.{◌≡◌, [], take, drop}
use Rattle.hd_entries.specs.Holding.{state_of, IsHeld}
use Rattle.hd_entries.specs.Resuming.{first_fault}
use Rattle.hd_entries.specs.Waiting.{IsAgain}
use Rattle.hd_entries.proofs.content.EntriesContent.enter_all.Given as goal

-- so many successors are entries again
abbrev pub invariant-loop-number : goal.invariant-loop-number
invariant-loop-number g l = record {
  held : IsHeld l.self;
  task : l.self.expanded.task.now ≡ l.fn.self.expanded.task.now;
  most : l.self.most ≡ l.fn.self.most;
  index : l.successors.task ≡ l.self.expanded.task.now;
  again : IsAgain (state_of l.self);
  entered : (state_of l.self).entries ≡ take l.number l.entries;
  faults : first_fault l.self.expanded.task.now (take l.number l.entries) (drop l.number l.entries) ≡ first_fault l.fn.self.expanded.task.now [] l.entries;
}
