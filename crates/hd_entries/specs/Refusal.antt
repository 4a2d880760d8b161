-- The printed form of a refusal. (Our own.)
use Rattle.std.specs.Prelude.{ℕ, List, codes}
use Rattle.hd_entries.specs.declared.refusal.Refusal.{Refusal}
use Rattle.hd_entries.specs.declared.refusal.Refusal.TheVariants.{UnknownParent, NotAKid, SettledBefore, StateDiffers, NotDominated, BelowBound, Full, NoMemory}

-- its number, a space and its name; lack of memory has no number
abbrev pub text_of : Refusal → List ℕ
text_of UnknownParent = codes "24 UnknownParent"
text_of NotAKid = codes "25 NotAKid"
text_of SettledBefore = codes "26 SettledBefore"
text_of StateDiffers = codes "27 StateDiffers"
text_of NotDominated = codes "28 NotDominated"
text_of BelowBound = codes "29 BelowBound"
text_of Full = codes "31 Full"
text_of NoMemory = codes "NoMemory"
