-- Faults of a domain's and a problem's text, how they are printed, and where a part of a check
-- stops. (Our own.)
use Rattle.std.specs.Prelude.{◌≡◌, ℕ, List, ◌++◌, Option, Some, codes, decimal}
use Rattle.std.specs.Option.{option_map}
use Rattle.hd_metric.specs.Fault as metric
use Rattle.hd_metric.specs.declared.fault.BadMetric.{BadMetric}
use Rattle.hd_names.specs.Fault as names
use Rattle.hd_names.specs.declared.fault.NameFault.{NameFault}
use Rattle.hd_names.specs.declared.fault.NameStop.{NameStop}
use Rattle.hd_names.specs.declared.fault.NameStop.TheVariants as named
use Rattle.hd_check.specs.declared.fault.CheckFault.{CheckFault}
use Rattle.hd_check.specs.declared.fault.CheckFault.TheVariants.{OfName, WrongArity, WrongType, OfMetric, DomainMismatch, InitOutOfRange}
use Rattle.hd_check.specs.declared.fault.CheckStop.{CheckStop}
use Rattle.hd_check.specs.declared.fault.CheckStop.TheVariants as stops
use Rattle.hd_check.specs.declared.fault.Source.{Source}
use Rattle.hd_check.specs.declared.fault.Source.TheVariants.{Domain, Problem}
use Rattle.hd_check.specs.declared.fault.CheckError.{CheckError}
use Rattle.hd_check.specs.declared.fault.CheckError.TheVariants as errors

-- the printed form of a fault: its number and its name, and in parentheses the name at fault, if
-- there is one, and the place
abbrev pub text_of : CheckFault → List ℕ
text_of (OfName fault) = names.text_of fault
text_of (WrongArity name at) = codes "10 WrongArity(" ++ name ++ codes ", " ++ decimal at ++ codes ")"
text_of (WrongType name at) = codes "11 WrongType(" ++ name ++ codes ", " ++ decimal at ++ codes ")"
text_of (OfMetric fault) = metric.text_of fault
text_of (DomainMismatch at) = codes "14 DomainMismatch(" ++ decimal at ++ codes ")"
text_of (InitOutOfRange at) = codes "18 InitOutOfRange(" ++ decimal at ++ codes ")"

-- which text a fault is in
abbrev pub source_text : Source → List ℕ
source_text Domain = codes "domain: "
source_text Problem = codes "problem: "

-- the printed form: which text, then the fault
abbrev pub error_text : CheckError → List ℕ
error_text (errors.In source fault) = source_text source ++ text_of fault
error_text errors.NoMemory = codes "NoMemory"

-- ---- what stops a part of a check, and the whole

-- a fault of a name, and a wrong use of the metric's function, as faults of a text
abbrev pub name_fault : Option NameFault → Option CheckFault
name_fault fault = option_map OfName fault

-- a wrong use of the metric's function, as a fault of a text
abbrev pub metric_use_fault : Option BadMetric → Option CheckFault
metric_use_fault fault = option_map OfMetric fault

-- what stopped names stops the part in which they stand
abbrev pub of_names : NameStop → CheckStop
of_names (named.At fault) = stops.At (OfName fault)
of_names named.NoMemory = stops.NoMemory

-- the stop is at the first fault; lack of memory says nothing
abbrev pub StopsAt : CheckStop → Option CheckFault → Type 0
StopsAt (stops.At f) fault = fault ≡ Some f
StopsAt stops.NoMemory fault = Unit {0}

-- what stopped the check of this text
abbrev pub error_in : Source → CheckStop → CheckError
error_in source (stops.At fault) = errors.In source fault
error_in source stops.NoMemory = errors.NoMemory

-- the error reports of the first fault; lack of memory says nothing
abbrev pub TellsOf : CheckError → Option CheckError → Type 0
TellsOf (errors.In source f) fault = fault ≡ Some (errors.In source f)
TellsOf errors.NoMemory fault = Unit {0}
