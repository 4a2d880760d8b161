use Rattle.std.proofs.Common.{◌≡◌, ℕ, ◌<◌, true, length}
use Rattle.hd_task.specs.declared.state.State.{State}
use Rattle.hd_hmax.specs.Rules.{places}
use Rattle.hd_hmax.specs.Lanes.{is_set, IsSound}
use Rattle.hd_hmax.proofs.levels.bring_free.Given as goal

-- nothing is lost
abbrev pub invariant-loop : goal.invariant-loop
invariant-loop l = record {
  wide : length l.room.items ≡ places (length l.rules.task.now.atoms);
  kept : (p j : ℕ) → j < 64 → is_set l.fn.room.items p j ≡ true → is_set l.room.items p j ≡ true;
  sound : (s : State) (j c : ℕ) → j < 64 → IsSound l.rules.task.now s c l.fn.room.items j → IsSound l.rules.task.now s c l.room.items j;
}
