-- What holds at first, and its first faults. (The initial state is that of PDDL 2.1; the range is
-- our own.)
use Rattle.std.specs.Prelude.{ℕ, if◌then◌else◌, List, [], ◌∷◌, ◌++◌, map, Option, Some, None, Result}
use Rattle.hd_lifted.specs.Numbering.{form_key}
use Rattle.hd_base.specs.Names.{is_named}
use Rattle.hd_base.specs.Numbers.{in_range}
use Rattle.hd_terms.specs.declared.tree.Atom.{Atom}
use Rattle.hd_pddl.specs.declared.tree.Init.{Init}
use Rattle.hd_pddl.specs.declared.tree.Init.TheVariants as inits
use Rattle.hd_pddl.specs.declared.tree.InitialValue as trees
use Rattle.hd_lifted.specs.declared.schema.AppliedSymbol.{AppliedSymbol}
use Rattle.hd_lifted.specs.declared.schema.Argument.{Argument}
use Rattle.hd_lifted.specs.declared.schema.Argument.TheVariants.{Parameter, Object}
use Rattle.hd_lifted.specs.declared.schema.Ground.{Ground}
use Rattle.hd_lifted.specs.declared.task.InitialValue.{InitialValue}
use Rattle.hd_check.specs.declared.initial.Initial.{Initial}
use Rattle.hd_check.specs.declared.initial.FoundInitial.{FoundInitial}
use Rattle.hd_names.specs.declared.scope.Scope.{Scope}
use Rattle.hd_names.specs.declared.table.Table.{Table}
use Rattle.hd_check.specs.declared.fault.CheckFault.{CheckFault}
use Rattle.hd_check.specs.declared.fault.CheckFault.TheVariants.{OfName, InitOutOfRange}
use Rattle.hd_names.specs.declared.fault.NameFault.TheVariants.{Duplicate}
use Rattle.hd_base.specs.Answers.{Checks, ChecksInto}
use Rattle.hd_base.specs.Options.{◌or◌}
use Rattle.hd_check.specs.declared.fault.CheckStop.{CheckStop}
use Rattle.hd_check.specs.Fault.{StopsAt}
use Rattle.hd_names.specs.Names.{name_number}
use Rattle.hd_check.specs.Terms.{applied_fault, lifted_applied}
use Rattle.hd_check.specs.Effects.{is_metric}

-- outside of actions there are no parameters
abbrev pub no_parameters : Table ℕ
no_parameters = record { names = []; items = [] }

-- the object of an argument: outside of actions each is one
abbrev pub object_in : Argument → ℕ
object_in (Object o) = o
object_in (Parameter k) = 0

-- an atom or a fluent of objects
abbrev pub ground_form : AppliedSymbol → Ground
ground_form a = record { symbol = a.symbol; objects = map object_in a.arguments }

-- what an atom, or a fluent, outside of actions stands for
abbrev pub ground_of : Table (List ℕ) → Scope → Atom → Ground
ground_of symbols s a = ground_form (lifted_applied symbols s no_parameters a)

-- the first value has to be in the range
abbrev pub range_fault : trees.InitialValue → Option CheckFault
range_fault v = if in_range v.value then None else Some (InitOutOfRange v.at)

-- a fluent can't be one of those that have a value
abbrev pub second_value : List (List ℕ) → List ℕ → Atom → Option CheckFault
second_value given key a = if is_named given key then Some (OfName (Duplicate a.name.name a.name.at)) else None

-- the fluent that has this first value
abbrev pub fluent_of : Scope → trees.InitialValue → Ground
fluent_of s v = ground_of s.functions s v.fluent

-- the fluents that have a value, with that of this one
abbrev pub with_first_value : Scope → List (List ℕ) → trees.InitialValue → List (List ℕ)
with_first_value s given v = given ++ form_key (fluent_of s v) ∷ []

-- the first fault of a value: of its fluent, then that the fluent has a value already, then the
-- range
abbrev pub value_fault : Scope → List (List ℕ) → trees.InitialValue → Option CheckFault
value_fault s given v =
    applied_fault s.functions s no_parameters v.fluent or second_value given (form_key (fluent_of s v)) v.fluent or range_fault v

-- the first fault of an atom or a first value, after values of these fluents
abbrev pub said_fault : Scope → List (List ℕ) → Init → Option CheckFault
said_fault s given (inits.Atom a) = applied_fault s.predicates s no_parameters a
said_fault s given (inits.NotAtom a) = applied_fault s.predicates s no_parameters a
said_fault s given (inits.Value v) = value_fault s given v

-- the fluents that have a value after it
abbrev pub given_after : Scope → List (List ℕ) → Init → List (List ℕ)
given_after s given (inits.Atom a) = given
given_after s given (inits.NotAtom a) = given
given_after s given (inits.Value v) = with_first_value s given v

-- the first fault of what holds at first, after values of these fluents
abbrev pub initial_fault : Scope → List (List ℕ) → List Init → Option CheckFault
initial_fault s given [] = None
initial_fault s given (i ∷ is) = said_fault s given i or initial_fault s (given_after s given i) is

-- the atom that is true at first
abbrev pub first_atom : Scope → Init → List Ground
first_atom s (inits.Atom a) = ground_of s.predicates s a ∷ []
first_atom s (inits.NotAtom a) = []
first_atom s (inits.Value v) = []

-- the atoms that are true at first, as written
abbrev pub first_atoms : Scope → List Init → List Ground
first_atoms s [] = []
first_atoms s (i ∷ is) = first_atom s i ++ first_atoms s is

-- the first value of a fluent; the metric's function is no part of a state
abbrev pub first_value_in : Scope → trees.InitialValue → List InitialValue
first_value_in s v =
    if is_metric s.metric (name_number s.functions.names v.fluent.name.name) then []
    else record { fluent = fluent_of s v; value = v.value } ∷ []

-- the first value that an initial fact gives, if any; the metric's function gets none
abbrev pub value_said : Scope → Init → List InitialValue
value_said s (inits.Atom a) = []
value_said s (inits.NotAtom a) = []
value_said s (inits.Value v) = first_value_in s v

-- the first values of fluents
abbrev pub first_values : Scope → List Init → List InitialValue
first_values s [] = []
first_values s (i ∷ is) = value_said s i ++ first_values s is

-- what holds at first
abbrev pub lifted_initial : Scope → List Init → Initial
lifted_initial s is = record { atoms = first_atoms s is; values = first_values s is }

-- ---- what calls answer

-- an atom or a fluent of objects, with names resolved, or a stop at its first fault
abbrev pub LiftsGround : Result Ground CheckStop → Table (List ℕ) → Scope → Atom → Type 0
LiftsGround result symbols s a = Checks StopsAt result (applied_fault symbols s no_parameters a) (ground_of symbols s a)

-- a fluent that is given no second value is noted among the old ones, which leaves the new ones
abbrev pub Notes : {R : Type 0} → Result R CheckStop → List (List ℕ) → List (List ℕ) → Ground → Atom → Type 0
Notes result old new g a = ChecksInto StopsAt result new (second_value old (form_key g) a) (old ++ form_key g ∷ [])

-- the fluent of a first value, and the fluents that have one, with that
abbrev pub LiftsFluent : Result Ground CheckStop → List (List ℕ) → Scope → trees.InitialValue → Type 0
LiftsFluent result given s v = Checks StopsAt result (value_fault s given v) (fluent_of s v)

-- the fluents with a first value so far, and then that of this one; or a stop at its first fault
abbrev pub NotesFluent : {R : Type 0} → Result R CheckStop → List (List ℕ) → List (List ℕ) → Scope → trees.InitialValue → Type 0
NotesFluent result old new s v = ChecksInto StopsAt result new (value_fault s old v) (with_first_value s old v)

-- the values, with this one after them
abbrev pub GathersFirstValues
    : {R : Type 0} → Result R CheckStop → List InitialValue → List InitialValue → List (List ℕ) → Scope → trees.InitialValue → Type 0
GathersFirstValues result old new given s v = ChecksInto StopsAt result new (value_fault s given v) (old ++ first_value_in s v)

-- what was found, with what is said after it
abbrev pub NotesSaid : {R : Type 0} → Result R CheckStop → FoundInitial → FoundInitial → Scope → Init → Type 0
NotesSaid result old new s i = ChecksInto StopsAt result new.given (said_fault s old.given i) (given_after s old.given i)

-- the true atoms found so far, and then that of an initial fact, if any; or a stop at its fault
abbrev pub GathersAtoms : {R : Type 0} → Result R CheckStop → FoundInitial → FoundInitial → Scope → Init → Type 0
GathersAtoms result old new s i =
    ChecksInto StopsAt result new.atoms.items (said_fault s old.given i) (old.atoms.items ++ first_atom s i)

-- the first values found so far, and then that of a fact, if any; or a stop at its fault
abbrev pub GathersValues : {R : Type 0} → Result R CheckStop → FoundInitial → FoundInitial → Scope → Init → Type 0
GathersValues result old new s i =
    ChecksInto StopsAt result new.values.items (said_fault s old.given i) (old.values.items ++ value_said s i)

-- the atoms and first values of a problem, with names resolved, or a stop at the first fault
abbrev pub LiftsInitial : Result Initial CheckStop → Scope → List Init → Type 0
LiftsInitial result s is = Checks StopsAt result (initial_fault s [] is) (lifted_initial s is)
