-- The answers of `action_test`: those of `apply`, without the state after the action. (Our own.)
use Rattle.std.specs.Prelude.{ℕ}
use Rattle.hd_task.specs.declared.state.State.{State}
use Rattle.hd_task.specs.declared.task.Task.{Task}
use Rattle.hd_task.specs.declared.applying.Applied.{Applied}
use Rattle.hd_task.specs.declared.applying.Applied.TheVariants as Answer
use Rattle.hd_task.specs.declared.testing.ActionTest.{ActionTest}
use Rattle.hd_task.specs.declared.testing.ActionTest.TheVariants.{No, Costs, Departs}
use Rattle.hd_task.specs.Applying.{applied_at}

-- an answer of `apply`, without the state
abbrev pub tested : Applied → ActionTest
tested Answer.No = No
tested (Answer.Next s c) = Costs c
tested Answer.Departs = Departs

-- what `action_test` answers, by the action's number
abbrev pub action_test_at : Task → State → ℕ → ActionTest
action_test_at t s n = tested (applied_at t s n)
