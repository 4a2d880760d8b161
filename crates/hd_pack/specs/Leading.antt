-- Where an action leads from a packed state: what the task's own step says, with the hash of the
-- state after it. (Our own.)
use Rattle.std.specs.Prelude.{ℕ, ◌+◌, Bool, if◌then◌else◌, List, set, ℤ}
use Rattle.hd_base.specs.Numbers.{cost_in_range}
use Rattle.hd_task.specs.declared.state.State.{State}
use Rattle.hd_task.specs.declared.effect.Effect.{Effect}
use Rattle.hd_task.specs.declared.applying.Applied.{Applied}
use Rattle.hd_task.specs.declared.applying.Applied.TheVariants as Answer
use Rattle.hd_task.specs.declared.applying.GoalTest.{GoalTest}
use Rattle.hd_task.specs.declared.applying.GoalTest.TheVariants as Test
use Rattle.hd_task.specs.declared.stepping.Reached.{Reached}
use Rattle.hd_task.specs.declared.stepping.Reached.TheVariants as Step
use Rattle.hd_task.specs.Effects.{new_value}
use Rattle.hd_zobrist.specs.Hash.{state_hash}
use Rattle.hd_pack.specs.declared.leading.Led.{Led}
use Rattle.hd_pack.specs.declared.leading.Led.TheVariants.{No, Departs, Next}

-- ---- answers

-- what the task's step answers, with the hash of the state that it leads to
abbrev pub led_of : Reached → Led
led_of Step.No = No
led_of (Step.Next s cost) = Next s (state_hash s) cost
led_of Step.Departs = Departs

-- the same from what `apply` answers, at a plan of some cost
abbrev pub led_by : ℕ → Applied → Led
led_by cost Answer.No = No
led_by cost (Answer.Next s c) = if cost_in_range (cost + c) then Next s (state_hash s) (cost + c) else Departs
led_by cost Answer.Departs = Departs

-- whether an answer goes on, leads nowhere, or departs
abbrev pub test_of_led : Led → GoalTest
test_of_led No = Test.No
test_of_led (Next s hash cost) = Test.Yes
test_of_led Departs = Test.Departs

-- ---- writes

-- a state whose atom of this number is true or false, if it has the atom
abbrev pub with_atom_value : Bool → State → ℕ → State
with_atom_value v s i = record { atoms = set s.atoms i v; fluents = s.fluents }

-- a state whose fluent of this number has a value, if it has the fluent
abbrev pub with_value : State → ℕ → ℤ → State
with_value s j v = record { atoms = s.atoms; fluents = set s.fluents j v }

-- a state whose fluent has the value that an effect gives it, by the values f from before the
-- action
abbrev pub with_effect_value : List ℤ → State → Effect → State
with_effect_value f s e = with_value s e.fluent (new_value f e)
