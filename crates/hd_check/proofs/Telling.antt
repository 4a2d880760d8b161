-- What a part answers, told of its text; and what names tell, as faults of a text.
use Rattle.std.proofs.Common.{◌≡◌, ℕ, List, Option, Some, None, Result, Ok, Err, refl, sym, ap}
use Rattle.std.proofs.lemmas.Option.{none-some}
use Rattle.hd_terms.specs.declared.tree.Typed.{Typed}
use Rattle.hd_check.specs.declared.fault.Source.{Source}
use Rattle.hd_check.specs.declared.fault.Source.TheVariants.{Domain}
use Rattle.hd_check.specs.declared.fault.CheckError.{CheckError}
use Rattle.hd_check.specs.declared.fault.CheckError.TheVariants.{In}
use Rattle.hd_check.specs.declared.fault.CheckFault.{CheckFault}
use Rattle.hd_check.specs.declared.fault.CheckFault.TheVariants.{OfName, OfMetric}
use Rattle.hd_check.specs.declared.fault.CheckStop.{CheckStop}
use Rattle.hd_check.specs.declared.fault.CheckStop.TheVariants.{At, NoMemory}
use Rattle.hd_metric.specs.declared.fault.BadMetric.{BadMetric}
use Rattle.hd_names.specs.declared.fault.NameFault.{NameFault}
use Rattle.hd_names.specs.declared.fault.NameStop.{NameStop}
use Rattle.hd_names.specs.declared.fault.NameStop.TheVariants as named
use Rattle.hd_names.specs.Fault as names
use Rattle.hd_names.specs.Scope.{Climbs}
use Rattle.hd_base.specs.Answers.{Checks}
use Rattle.hd_base.specs.Options.{◌or◌}
use Rattle.hd_check.specs.Fault.{StopsAt, TellsOf, name_fault, metric_use_fault, of_names}
use Rattle.hd_check.specs.Whole.{of_text, names_in, in_text, listed_fault, ClimbsIn, TellsCycleIn, cycle, no_memory, TellsTypes, by_name, by_cycle}

-- ---- answers

-- a part that reports its first fault reports it of its text
pub told_of : {R : Type 0} (source : Source) (answer : Result R CheckStop) (fault : Option CheckFault) (said : R) → Checks StopsAt answer fault said
    → Checks TellsOf (of_text source answer) (in_text source fault) said
told_of source (Ok r) fault said (none, same) = (ap (in_text source) none, same)
told_of source (Err (At f)) fault said first = ap (in_text source) first
told_of source (Err NoMemory) fault said u = tt

-- so do names that tell theirs
pub told_names : {R : Type 0} (source : Source) (answer : Result R NameStop) (fault : Option NameFault) (said : R)
    → Checks names.StopsAt answer fault said → Checks TellsOf (names_in source answer) (in_text source (name_fault fault)) said
told_names source (Ok r) fault said (none, same) = (ap (λ (o : Option NameFault). in_text source (name_fault o)) none, same)
told_names source (Err (named.At f)) fault said first = ap (λ (o : Option NameFault). in_text source (name_fault o)) first
told_names source (Err named.NoMemory) fault said u = tt

-- what stopped names stops the part in which they stand, at the same fault
pub stops_part : (told : NameStop) (fault : Option NameFault) → names.StopsAt told fault → StopsAt (of_names told) (name_fault fault)
stops_part (named.At f) fault first = ap name_fault first
stops_part named.NoMemory fault u = tt

-- so where their fault is the first of two
pub stops_first : (told : NameStop) (fault : Option NameFault) (rest : Option CheckFault) → names.StopsAt told fault
    → StopsAt (of_names told) (name_fault fault or rest)
stops_first (named.At f) fault rest first = rw first refl
stops_first named.NoMemory fault rest u = tt

-- a type on a cycle is reported of the domain
pub told_cycle : (answer : Result (List ℕ) NameStop) (ts : List Typed) → Climbs answer ts → ClimbsIn (names_in Domain answer) ts
told_cycle (Ok h) ts climbs = climbs
told_cycle (Err (named.At f)) ts tells = cycle f tells
told_cycle (Err named.NoMemory) ts u = no_memory

-- what stops the names of types, or else their hierarchy, stops the types
pub told_name : (ts : List Typed) (e : CheckError) → TellsOf e (in_text Domain (listed_fault ts)) → TellsTypes ts e
told_name ts e tells = by_name e tells

pub told_later_cycle : (ts : List Typed) (e : CheckError) → in_text Domain (listed_fault ts) ≡ None → TellsCycleIn ts e → TellsTypes ts e
told_later_cycle ts e none tells = by_cycle e none tells

-- ---- if nothing is reported

pub text_none : (source : Source) (f : Option CheckFault) → in_text source f ≡ None → f ≡ None
text_none source None e = refl
text_none source (Some f) e = absurd (none-some (In source f) (sym e))

pub name_none : (f : Option NameFault) → name_fault f ≡ None → f ≡ None
name_none None e = refl
name_none (Some f) e = absurd (none-some (OfName f) (sym e))

pub use_none : (f : Option BadMetric) → metric_use_fault f ≡ None → f ≡ None
use_none None e = refl
use_none (Some f) e = absurd (none-some (OfMetric f) (sym e))
