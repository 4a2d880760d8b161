-- Faults of names, how they are printed, and where what asks for them stops. (Our own.)
use Rattle.std.specs.Prelude.{◌≡◌, ℕ, List, ◌++◌, Option, Some, codes, decimal}
use Rattle.hd_names.specs.declared.fault.NameFault.{NameFault}
use Rattle.hd_names.specs.declared.fault.NameFault.TheVariants.{UnknownName, Duplicate, TypeCycle}
use Rattle.hd_names.specs.declared.fault.NameStop.{NameStop}
use Rattle.hd_names.specs.declared.fault.NameStop.TheVariants as stops

-- the printed form of a fault: its number and its name, and in parentheses the name at fault and
-- the place
abbrev pub text_of : NameFault → List ℕ
text_of (UnknownName name at) = codes "8 UnknownName(" ++ name ++ codes ", " ++ decimal at ++ codes ")"
text_of (Duplicate name at) = codes "9 Duplicate(" ++ name ++ codes ", " ++ decimal at ++ codes ")"
text_of (TypeCycle name at) = codes "12 TypeCycle(" ++ name ++ codes ", " ++ decimal at ++ codes ")"

-- the stop is at the first fault; lack of memory says nothing
abbrev pub StopsAt : NameStop → Option NameFault → Type 0
StopsAt (stops.At f) fault = fault ≡ Some f
StopsAt stops.NoMemory fault = Unit {0}
