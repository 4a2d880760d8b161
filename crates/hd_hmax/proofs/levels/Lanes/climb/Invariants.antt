use Rattle.std.proofs.Common.{◌≡◌, ℕ, ◌<◌, ◌≤◌, true, false, None, length, get_or}
use Rattle.hd_task.specs.declared.state.State.{State}
use Rattle.hd_task.specs.Plans.{IsStateOf}
use Rattle.hd_hmax.specs.Costs.{up_to}
use Rattle.hd_hmax.specs.Rounds.{hmax}
use Rattle.hd_hmax.specs.Lanes.{bit, IsLane, IsValueOf, AreLevels, HasLanes}
use Rattle.hd_hmax.proofs.levels.Lanes.climb.Given as goal

-- the levels so far: what is open costs no less, and what is told is right
abbrev pub invariant-loop-level : goal.invariant-loop-level
invariant-loop-level l = record {
  widths : HasLanes l.rules.task.now l.self;
  quiet : l.quiet ≤ l.level;
  many : length l.self.tables.items ≡ length l.fn.self.tables.items;
  levels : AreLevels l.rules.task.now l.rules.brings l.fn.self.first.items l.level l.self.tables.items l.self.room.items;
  above : (s : State) (j c : ℕ) → j < 64 → IsStateOf l.rules.task.now s → IsLane l.rules.task.now s l.fn.self.first.items j → bit l.«open» j ≡ true → c < l.level → up_to c (hmax l.rules.task.now s) ≡ false;
  told : (s : State) (j : ℕ) → j < 64 → IsStateOf l.rules.task.now s → IsLane l.rules.task.now s l.fn.self.first.items j → IsValueOf l.rules.task.now s (get_or l.values j None);
}
