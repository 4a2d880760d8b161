-- How it is printed why a lifted task has no task to search. (Our own.)
use Rattle.std.specs.Prelude.{ℕ, List, ◌++◌, codes, string_bytes}
use Rattle.hd_ground.specs.declared.error.GroundError.{GroundError}
use Rattle.hd_ground.specs.declared.error.GroundError.TheVariants.{TooMany, Undefined, NegativeCost, NoMemory}

-- the printed form: its number and its name, and in parentheses the ground form at fault, if there
-- is one
abbrev pub text_of : GroundError → List ℕ
text_of TooMany = codes "17 TooMany"
text_of (Undefined fluent) = codes "15 Undefined(" ++ string_bytes fluent ++ codes ")"
text_of (NegativeCost action) = codes "16 NegativeCost(" ++ string_bytes action ++ codes ")"
text_of NoMemory = codes "NoMemory"
