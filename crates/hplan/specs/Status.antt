-- The exit status of an answer. (Our own.)
use Rattle.std.specs.Prelude.{ℕ, Bool, true, false}
use Rattle.hplan.specs.declared.told.Ending.{Ending}
use Rattle.hplan.specs.declared.told.Ending.TheVariants.{Optimal, NoPlan, RangeLeft, Stopped}
use Rattle.hplan.specs.declared.program.TheConstants.{DONE, REFUSED, NO_PLAN, RANGE_LEFT, STOPPED}

-- by how the answer ends
abbrev pub status_of_ending : Ending → ℕ
status_of_ending Optimal = DONE
status_of_ending NoPlan = NO_PLAN
status_of_ending (RangeLeft departure) = RANGE_LEFT
status_of_ending Stopped = STOPPED

-- by whether a journal shows a verdict
abbrev pub status_of_certificate : Bool → ℕ
status_of_certificate true = DONE
status_of_certificate false = REFUSED
