-- Where an action leads from a packed state, as a draft says it. (Our own.)
use Rattle.std.specs.Prelude.{◌≡◌, ℕ, Option, Some, None, ◌⊎◌}
use Rattle.hd_task.specs.declared.state.State.{State}
use Rattle.hd_zobrist.specs.Hash.{state_hash}
use Rattle.hd_pack.specs.declared.leading.Led.{Led}
use Rattle.hd_pack.specs.declared.leading.Led.TheVariants.{No, Departs, Next}

-- nothing is reported where an action leads nowhere; else what the plan costs, and the state after
-- it
abbrev pub IsLedTo : Led → Option ℕ → State → Type 0
IsLedTo led None s = (led ≡ No) ⊎ (led ≡ Departs)
IsLedTo led (Some cost) s = led ≡ Next s (state_hash s) cost
