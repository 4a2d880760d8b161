-- What the answers of the questions about a plan say. (Our own.)
use Rattle.std.specs.Prelude.{◌≡◌, Bool, if◌then◌else◌, Option, Some, None, Result, Ok, Err}
use Rattle.hd_judge.specs.declared.fault.PlanFault.{PlanFault}
use Rattle.hd_judge.specs.declared.fault.PlanStop.{PlanStop}
use Rattle.hd_judge.specs.declared.fault.PlanStop.TheVariants as stops

-- a fault where a test fails
abbrev pub unless : Bool → PlanFault → Option PlanFault
unless test fault = if test then None else Some fault

-- the stop reports this fault; lack of memory reports nothing
abbrev pub StopsAt : PlanStop → Option PlanFault → Type 0
StopsAt (stops.At f) fault = fault ≡ Some f
StopsAt stops.NoMemory fault = Unit {0}

-- the answer is there if there is no fault, and otherwise the stop reports the fault
abbrev pub Asks : {X : Type 0} → Result X PlanStop → Option PlanFault → Type 0
Asks (Ok x) fault = fault ≡ None
Asks (Err e) fault = StopsAt e fault

-- the stop is one at a fault of this kind, or for lack of memory
abbrev pub StopsBy : (PlanFault → Type 0) → PlanStop → Type 0
StopsBy Tells (stops.At f) = Tells f
StopsBy Tells stops.NoMemory = Unit {0}
