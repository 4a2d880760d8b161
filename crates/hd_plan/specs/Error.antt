-- How errors are printed: the refusal's number and its name, and in parentheses what is at fault.
-- (Our own.)
use Rattle.std.specs.Prelude.{ℕ, List, ◌++◌, codes, decimal, string_bytes}
use Rattle.hd_plan.specs.declared.error.PlanError.{PlanError}
use Rattle.hd_plan.specs.declared.error.PlanError.TheVariants.{NoSuchAction, NotApplicable, Undefined, NegativeCost, Departs, GoalUnmet, NoMemory}

-- the printed form
abbrev pub text_of : PlanError → List ℕ
text_of (NoSuchAction step) = codes "20 NoSuchAction(" ++ decimal step ++ codes ")"
text_of (NotApplicable step) = codes "21 NotApplicable(" ++ decimal step ++ codes ")"
text_of (Undefined fluent) = codes "15 Undefined(" ++ string_bytes fluent ++ codes ")"
text_of (NegativeCost action) = codes "16 NegativeCost(" ++ string_bytes action ++ codes ")"
text_of (Departs step) = codes "22 Departs(" ++ decimal step ++ codes ")"
text_of GoalUnmet = codes "23 GoalUnmet"
text_of NoMemory = codes "NoMemory"
