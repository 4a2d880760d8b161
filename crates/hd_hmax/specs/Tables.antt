-- Tables of costs that are not too large. (Our own.)
use Rattle.std.specs.Prelude.{◌≡◌, ℕ, ◌≤◌, Some}
use Rattle.hd_task.specs.declared.condition.Literal.{Literal}
use Rattle.hd_hmax.specs.Rounds.{Table, cost_in}

-- no cost in it is above this, but for infinite ones
abbrev pub IsSmall : ℕ → Table → Type 0
IsSmall most table = (l : Literal) (v : ℕ) → cost_in table l ≡ Some v → v ≤ most
