-- What an action costs at least, whatever the state.
-- (Our own: an amount that depends on the state is taken for nothing.)
use Rattle.std.specs.Prelude.{ℕ, if◌then◌else◌}
use Rattle.std.specs.List.{list_all}
use Rattle.std.specs.Option.{unwrap_or}
use Rattle.hd_task.specs.declared.action.Action.{Action}
use Rattle.hd_task.specs.declared.task.Task.{Task}
use Rattle.hd_task.specs.Effects.{natural}
use Rattle.hd_task.specs.WellFormed.{is_constant_amount, constant_sum}

-- the sum of an action's amounts where all of them are constant, and 0 where one depends on the
-- state
abbrev pub constant_price : Action → ℕ
constant_price a = if list_all is_constant_amount a.costs then unwrap_or (natural (constant_sum a.costs)) 0 else 0

-- the price of an action: 1 without a metric
unfoldable pub price : Task → Action → ℕ
price t a = if t.metric then constant_price a else 1
