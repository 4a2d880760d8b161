use Rattle.std.proofs.Common.{ℕ, ◌+◌, [], length}
use Rattle.hd_hmax.specs.Working.{Counted, Fair, IsAllReady, HasQueueRoom, HasStarted, load}
use Rattle.hd_hmax.proofs.settling.Work.goal_cost.Given as goal

-- what was taken so far
abbrev pub invariant-loop-level : goal.invariant-loop-level
invariant-loop-level g l = record {
  counted : Counted l.rules.task.now l.self [];
  started : HasStarted l.rules.task.now (g.R.Reads.seen l.state) l.self.pending.items;
  fair : (level : ℕ) × Fair l.rules.task.now (g.R.Reads.seen l.state) l.self level [];
  ready : IsAllReady l.rules.task.now l.rules.brings l.self (length l.rules.task.now.actions + 1);
  room : HasQueueRoom l.rules.task.now l.self;
}

abbrev pub decreases-loop-level : goal.decreases-loop-level
decreases-loop-level g l = load l.self
