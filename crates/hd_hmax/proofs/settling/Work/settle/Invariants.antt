use Rattle.std.proofs.Common.{◌≡◌, ℕ, ◌≤◌, false, [], Some, drop, set}
use Rattle.hd_task.specs.declared.state.State.{State}
use Rattle.hd_hmax.specs.Working.{final_value, Counted, Fair, IsAllReady, HasQueueRoom, load}
use Rattle.hd_hmax.proofs.settling.Work.settle.Given as goal

-- the other rules are to be told
abbrev pub invariant-loop-rule : goal.invariant-loop-rule
invariant-loop-rule l = record {
  pending : l.self.pending.items ≡ set l.fn.self.pending.items l.place false;
  counted : Counted l.rules.task.now l.self (drop l.rule-index l.askers);
  fair : (s : State) → final_value l.rules.task.now s l.place ≡ Some l.level → Fair l.rules.task.now s l.fn.self l.level []
      → Fair l.rules.task.now s l.self l.level (drop l.rule-index l.askers);
  ready : (busy : ℕ) → IsAllReady l.rules.task.now l.rules.brings l.fn.self busy → IsAllReady l.rules.task.now l.rules.brings l.self busy;
  room : HasQueueRoom l.rules.task.now l.self;
  load : load l.self ≤ load l.fn.self;
}
