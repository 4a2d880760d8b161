-- What names stand for: each is numbered by its place among those declared. (The scopes of names
-- are those of PDDL 2.1.)
use Rattle.std.specs.Prelude.{◌≡◌, ℕ, suc, List, [], ◌∷◌, ◌++◌, map, slice_get, Option, Some, None, Result, Ok, Err, codes, ◌-◌, length, replicate}
use Rattle.std.specs.List.{position}
use Rattle.std.specs.Str.{bytes_eq}
use Rattle.hd_base.specs.Answers.{Checks, ChecksInto}
use Rattle.hd_base.specs.Options.{◌or◌}
use Rattle.hd_forms.specs.declared.names.NameAt.{NameAt}
use Rattle.hd_terms.specs.declared.typed.ItemKind.{ItemKind}
use Rattle.hd_terms.specs.declared.typed.ItemKind.TheVariants as kinds
use Rattle.hd_terms.specs.declared.tree.Typed.{Typed}
use Rattle.hd_pddl.specs.declared.tree.DomainAst.{DomainAst}
use Rattle.hd_pddl.specs.declared.tree.Signature.{Signature}
use Rattle.hd_names.specs.declared.scope.Scope.{Scope}
use Rattle.hd_names.specs.declared.table.Table.{Table}
use Rattle.hd_names.specs.declared.fault.NameFault.{NameFault}
use Rattle.hd_names.specs.declared.fault.NameFault.TheVariants.{TypeCycle}
use Rattle.hd_names.specs.declared.fault.NameStop.{NameStop}
use Rattle.hd_names.specs.declared.fault.NameStop.TheVariants as stops
use Rattle.hd_lifted.specs.Types.{IsOnCycle, IsAcyclic}
use Rattle.hd_names.specs.Fault.{StopsAt}
use Rattle.hd_names.specs.Names.{with_name, names_declared, types_of, declared_fault, duplicate_in}

-- ---- types

-- a type that is named as a supertype is known
abbrev pub with_supertype : List (List ℕ) → Option NameAt → List (List ℕ)
with_supertype names None = names
with_supertype names (Some n) = with_name names n.name

-- the supertypes, after the names that are there
abbrev pub with_supertypes : List (List ℕ) → List Typed → List (List ℕ)
with_supertypes names [] = names
with_supertypes names (t ∷ ts) = with_supertypes (with_supertype names t.of) ts

-- `object`, the types that are listed, and those that are only named as a supertype, which are
-- subtypes of `object`
abbrev pub type_names : List Typed → List (List ℕ)
type_names ts = with_supertypes (codes "object" ∷ names_declared ts) ts

-- `object` above each type that is only named as a supertype
abbrev pub parents_of_others : List Typed → List ℕ
parents_of_others ts = replicate (length (type_names ts) - 1 - length ts) 0

-- the numbers of the types above each but `object`: of those that are listed, then of the others
abbrev pub parents_of : List Typed → List ℕ
parents_of ts = types_of (type_names ts) ts ++ parents_of_others ts

-- a listed type that lies on a cycle: the types are numbered from 1 as they are listed
pub record TellsCycle (ts : List Typed) (f : NameFault) : Type 0 where
  pub place : ℕ
  pub listed : Typed
  pub stands : slice_get ts place ≡ Some listed
  pub cycle : IsOnCycle (parents_of ts) (suc place)
  pub fault : f ≡ TypeCycle listed.name.name listed.name.at

-- the stop is at a type on a cycle; lack of memory says nothing
abbrev pub StopsOnCycle : NameStop → List Typed → Type 0
StopsOnCycle (stops.At f) ts = TellsCycle ts f
StopsOnCycle stops.NoMemory ts = Unit {0}

-- the hierarchy of the types, or a type on a cycle; lack of memory says nothing
abbrev pub Climbs : Result (List ℕ) NameStop → List Typed → Type 0
Climbs (Ok h) ts = (h ≡ parents_of ts) × IsAcyclic (parents_of ts)
Climbs (Err stop) ts = StopsOnCycle stop ts

-- the first type that is listed twice, or is `object`
abbrev pub types_fault : List (List ℕ) → List Typed → Option NameFault
types_fault names [] = None
types_fault names (t ∷ ts) = duplicate_in kinds.Name names t.name or types_fault (names ++ t.name.name ∷ []) ts

-- ---- tables

-- typed names
abbrev pub typed_table : List (List ℕ) → List Typed → Table ℕ
typed_table types ts = record { names = names_declared ts; items = types_of types ts }

-- predicates or functions, with the types of their parameters
abbrev pub signature_table : List (List ℕ) → List Signature → Table (List ℕ)
signature_table types ss = record {
  names = map (λ s. s.name.name) ss;
  items = map (λ s. types_of types s.parameters) ss;
}

-- the first fault of predicates, or of functions, after others of these names: of each its name,
-- then its parameters
abbrev pub signatures_fault : List (List ℕ) → List (List ℕ) → List Signature → Option NameFault
signatures_fault types names [] = None
signatures_fault types names (s ∷ ss) =
    duplicate_in kinds.Name names s.name or declared_fault kinds.Variable types [] s.parameters
    or signatures_fault types (names ++ s.name.name ∷ []) ss

-- ---- scopes

-- the number of the metric's function among these
abbrev pub metric_number : List (List ℕ) → Option NameAt → Option ℕ
metric_number functions None = None
metric_number functions (Some n) = position (bytes_eq n.name) functions

-- what names stand for in a domain whose types have these names and parents: of objects it may name
-- its constants
unfoldable pub scope_of : List (List ℕ) → List ℕ → DomainAst → Option NameAt → Scope
scope_of types parents d metric = record {
  types = types;
  hierarchy = parents;
  objects = typed_table types d.constants;
  predicates = signature_table types d.predicates;
  functions = signature_table types d.functions;
  metric = metric_number (map (λ s. s.name.name) d.functions) metric;
}

-- the same with objects after the constants: what names stand for in a problem
unfoldable pub with_objects : Scope → List Typed → Scope
with_objects s os = record {
  types = s.types;
  hierarchy = s.hierarchy;
  objects = record { names = s.objects.names ++ names_declared os; items = s.objects.items ++ types_of s.types os };
  predicates = s.predicates;
  functions = s.functions;
  metric = s.metric;
}

-- the first fault of a domain's constants, predicates and functions
unfoldable pub scope_fault : List (List ℕ) → DomainAst → Option NameFault
scope_fault types d =
    declared_fault kinds.Name types [] d.constants or signatures_fault types [] d.predicates
    or signatures_fault types [] d.functions

-- ---- what calls answer: a value if there is no fault, else a stop at the fault

-- listed types are declared after the old names, and leave the new ones
abbrev pub DeclaresListed : {R : Type 0} → Result R NameStop → List (List ℕ) → List (List ℕ) → List Typed → Type 0
DeclaresListed result new old ts = ChecksInto StopsAt result new (types_fault old ts) (old ++ names_declared ts)

-- the names of all types
abbrev pub ChecksTypes : Result (List (List ℕ)) NameStop → List Typed → Type 0
ChecksTypes result ts = Checks StopsAt result (types_fault (codes "object" ∷ []) ts) (type_names ts)

-- the table of declared names, and of predicates or functions
abbrev pub ChecksTable : Result (Table ℕ) NameStop → ItemKind → List (List ℕ) → List Typed → Type 0
ChecksTable result k types ts = Checks StopsAt result (declared_fault k types [] ts) (typed_table types ts)

-- the table of predicates or functions, or a stop at their first fault
abbrev pub ChecksSignatures : Result (Table (List ℕ)) NameStop → List (List ℕ) → List Signature → Type 0
ChecksSignatures result types ss = Checks StopsAt result (signatures_fault types [] ss) (signature_table types ss)

-- the scope of a domain, and that scope with objects after its constants
abbrev pub ChecksScope : Result Scope NameStop → List (List ℕ) → List ℕ → DomainAst → Option NameAt → Type 0
ChecksScope result types parents d metric = Checks StopsAt result (scope_fault types d) (scope_of types parents d metric)

-- a scope with these objects after its own, or a stop at their first fault
abbrev pub ChecksObjects : Result Scope NameStop → Scope → List Typed → Type 0
ChecksObjects result s os =
    Checks StopsAt result (declared_fault kinds.Name s.types s.objects.names os) (with_objects s os)
