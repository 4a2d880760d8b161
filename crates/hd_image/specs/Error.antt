-- How errors are printed.
use Rattle.std.specs.Prelude.{ℕ, List, ◌++◌, codes, decimal}
use Rattle.hd_image.specs.declared.error.ImageError.{ImageError}
use Rattle.hd_image.specs.declared.error.ImageError.TheVariants.{NotAJournal, OtherTask, Damaged, NoMemory}

-- the printed form: the refusal's number, its name, and the place in decimal (a rule of this
-- project)
abbrev pub text_of : ImageError → List ℕ
text_of NotAJournal = codes "32 NotAJournal"
text_of OtherTask = codes "33 OtherTask"
text_of (Damaged at) = codes "34 Damaged(" ++ decimal at ++ codes ")"
text_of NoMemory = codes "NoMemory"
