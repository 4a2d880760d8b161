use Rattle.std.proofs.Common.{◌≡◌, [], take, drop}
use Rattle.hd_entries.specs.Resuming.{first_fault}
use Rattle.hd_entries.specs.Waiting.{IsAgain}
use Rattle.hd_certify.specs.Gathering.{AreGathered}
use Rattle.hd_certify.proofs.gathering.enter_all.Given as goal

-- so many successors are entries again
abbrev pub invariant-loop-number : goal.invariant-loop-number
invariant-loop-number l = record {
  task : l.gathered.entries.state.task ≡ l.fn.gathered.entries.state.task;
  most : l.gathered.entries.most ≡ l.fn.gathered.entries.most;
  index : l.successors.task ≡ l.gathered.entries.state.task;
  again : IsAgain l.gathered.entries.state;
  gathered : AreGathered l.gathered;
  entered : l.gathered.entries.state.entries ≡ take l.number l.kids;
  faults : first_fault l.gathered.entries.state.task (take l.number l.kids) (drop l.number l.kids) ≡ first_fault l.fn.gathered.entries.state.task [] l.kids;
}
