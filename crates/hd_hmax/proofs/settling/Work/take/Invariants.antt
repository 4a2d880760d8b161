use Rattle.std.proofs.Common.{◌≡◌, ℕ, ◌≤◌, true, false, [], Some, take, Contains}
use Rattle.hd_task.specs.declared.state.State.{State}
use Rattle.hd_hmax.specs.Working.{final_value, is_open, Counted, Fair, IsAllReady, HasQueueRoom, load, StayClosed}
use Rattle.hd_hmax.proofs.settling.Work.take.Given as goal

-- the places so far are closed
abbrev pub invariant-loop-place : goal.invariant-loop-place
invariant-loop-place l = record {
  counted : Counted l.rules.task.now l.self [];
  closed : (p : ℕ) → Contains (take l.place-index l.brought) p → is_open l.self.pending.items p ≡ false;
  stay : StayClosed l.fn.self.pending.items l.self.pending.items;
  fair : (s : State) → ((p : ℕ) → Contains l.brought p → is_open l.fn.self.pending.items p ≡ true → final_value l.rules.task.now s p ≡ Some l.level)
      → Fair l.rules.task.now s l.fn.self l.level [] → Fair l.rules.task.now s l.self l.level [];
  ready : (busy : ℕ) → IsAllReady l.rules.task.now l.rules.brings l.fn.self busy → IsAllReady l.rules.task.now l.rules.brings l.self busy;
  room : HasQueueRoom l.rules.task.now l.self;
  load : load l.self ≤ load l.fn.self;
}
