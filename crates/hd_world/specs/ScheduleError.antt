-- How errors are printed.
use Rattle.std.specs.Prelude.{ℕ, List, ◌++◌, codes, decimal}
use Rattle.hd_world.specs.declared.schedule_error.ScheduleError.{ScheduleError}
use Rattle.hd_world.specs.declared.schedule_error.ScheduleError.TheVariants.{BadLine, NoMemory}

-- the printed form: the refusal's number, its name, and the line in decimal (a rule of this
-- project)
abbrev pub text_of : ScheduleError → List ℕ
text_of (BadLine line) = codes "19 BadLine(" ++ decimal line ++ codes ")"
text_of NoMemory = codes "NoMemory"
