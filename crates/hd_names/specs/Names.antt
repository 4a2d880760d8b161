-- Names, each once, numbered in their order; and the faults of names. (Our own.)
use Rattle.std.specs.Prelude.{ℕ, if◌then◌else◌, List, [], ◌∷◌, ◌++◌, map, Option, Some, None, Result}
use Rattle.std.specs.List.{position}
use Rattle.std.specs.Str.{bytes_eq}
use Rattle.hd_base.specs.Answers.{Checks, ChecksInto}
use Rattle.hd_base.specs.Names.{is_named}
use Rattle.hd_base.specs.Options.{◌or◌}
use Rattle.hd_forms.specs.declared.names.NameAt.{NameAt}
use Rattle.hd_terms.specs.declared.typed.ItemKind.{ItemKind}
use Rattle.hd_terms.specs.declared.typed.ItemKind.TheVariants as kinds
use Rattle.hd_terms.specs.declared.tree.Typed.{Typed}
use Rattle.hd_names.specs.declared.fault.NameFault.{NameFault}
use Rattle.hd_names.specs.declared.fault.NameFault.TheVariants.{UnknownName, Duplicate}
use Rattle.hd_names.specs.declared.fault.NameStop.{NameStop}
use Rattle.hd_names.specs.Fault.{StopsAt}

-- the names with one more, if it is none of them yet
abbrev pub with_name : List (List ℕ) → List ℕ → List (List ℕ)
with_name names n = if is_named names n then names else names ++ n ∷ []

-- a number, 0 if there is none
abbrev pub or_zero : Option ℕ → ℕ
or_zero None = 0
or_zero (Some i) = i

-- the number of a name: its place among these
abbrev pub name_number : List (List ℕ) → List ℕ → ℕ
name_number names n = or_zero (position (bytes_eq n) names)

-- a name as it is written: a variable's has a `?`, which is the byte 63
abbrev pub spelled : ItemKind → List ℕ → List ℕ
spelled kinds.Name n = n
spelled kinds.Variable n = 63 ∷ n

-- a name that is used has to be one of these
abbrev pub unknown_in : ItemKind → List (List ℕ) → NameAt → Option NameFault
unknown_in k names n = if is_named names n.name then None else Some (UnknownName (spelled k n.name) n.at)

-- a name that is declared can't be one of these
abbrev pub duplicate_in : ItemKind → List (List ℕ) → NameAt → Option NameFault
duplicate_in k names n = if is_named names n.name then Some (Duplicate (spelled k n.name) n.at) else None

-- a type, if one is given, has to be one of these
abbrev pub unknown_type : List (List ℕ) → Option NameAt → Option NameFault
unknown_type types None = None
unknown_type types (Some n) = unknown_in kinds.Name types n

-- the number of a type: without one it is `object`, which is type 0
abbrev pub type_number : List (List ℕ) → Option NameAt → ℕ
type_number types None = 0
type_number types (Some n) = name_number types n.name

-- the first fault of declared names after others: of each its name comes before its type
abbrev pub declared_fault : ItemKind → List (List ℕ) → List (List ℕ) → List Typed → Option NameFault
declared_fault k types names [] = None
declared_fault k types names (t ∷ ts) =
    duplicate_in k names t.name or unknown_type types t.of or declared_fault k types (names ++ t.name.name ∷ []) ts

-- the names that are declared
abbrev pub names_declared : List Typed → List (List ℕ)
names_declared ts = map (λ t. t.name.name) ts

-- the numbers of their types
abbrev pub types_of : List (List ℕ) → List Typed → List ℕ
types_of types ts = map (λ t. type_number types t.of) ts

-- ---- what calls answer: a value if there is no fault, else a stop at the fault

-- a name that is used is known by its number
abbrev pub Knows : Result ℕ NameStop → ItemKind → List (List ℕ) → NameAt → Type 0
Knows result k names n = Checks StopsAt result (unknown_in k names n) (name_number names n.name)

-- so is a type, if one is given
abbrev pub KnowsType : Result ℕ NameStop → List (List ℕ) → Option NameAt → Type 0
KnowsType result types n = Checks StopsAt result (unknown_type types n) (type_number types n)

-- one name more is declared after the old ones, and leaves the new ones
abbrev pub Declares : {R : Type 0} → Result R NameStop → List (List ℕ) → ItemKind → List (List ℕ) → NameAt → Type 0
Declares result new k old n = ChecksInto StopsAt result new (duplicate_in k old n) (old ++ n.name ∷ [])

-- names with their types are declared after the old ones, and leave the new ones
abbrev pub DeclaresNames
    : {R : Type 0} → Result R NameStop → List (List ℕ) → ItemKind → List (List ℕ) → List (List ℕ) → List Typed → Type 0
DeclaresNames result new k types old ts = ChecksInto StopsAt result new (declared_fault k types old ts) (old ++ names_declared ts)

-- so they give the numbers of their types
abbrev pub DeclaresTypes : Result (List ℕ) NameStop → ItemKind → List (List ℕ) → List (List ℕ) → List Typed → Type 0
DeclaresTypes result k types names ts = Checks StopsAt result (declared_fault k types names ts) (types_of types ts)
