-- The types of what texts without a fault declare.
use Rattle.hd_base.proofs.Options.{option_or_none, true-from_none}
use Rattle.std.proofs.Common.{◌≡◌, ℕ, ◌+◌, ◌≤◌, List, [], ◌∷◌, ◌++◌, map, length, Option, Some, None, arith}
use Rattle.std.specs.List.{AllByRecursion}
use Rattle.hd_forms.specs.declared.names.NameAt.{NameAt}
use Rattle.hd_terms.specs.declared.typed.ItemKind.{ItemKind}
use Rattle.hd_terms.specs.declared.typed.ItemKind.TheVariants as kinds
use Rattle.hd_terms.specs.declared.tree.Typed.{Typed}
use Rattle.hd_pddl.specs.declared.tree.Action.{Action}
use Rattle.hd_pddl.specs.declared.tree.Signature as trees
use Rattle.hd_lifted.specs.declared.schema.Schema.{Schema}
use Rattle.hd_lifted.specs.declared.task.Object.{Object}
use Rattle.hd_lifted.specs.declared.task.Signature.{Signature}
use Rattle.hd_names.specs.declared.fault.NameFault.TheVariants.{UnknownName}
use Rattle.hd_names.specs.declared.scope.Scope.{Scope}
use Rattle.hd_base.specs.Options.{◌or◌}
use Rattle.hd_base.specs.Names.{is_named}
use Rattle.hd_names.specs.Names.{spelled, type_number, types_of, declared_fault, duplicate_in, unknown_type}
use Rattle.hd_names.specs.Scope.{signatures_fault}
use Rattle.hd_check.specs.Schemas.{parameters_in, body_fault, action_fault, actions_fault, schema_with, lifted_schema}
use Rattle.hd_check.specs.Whole.{lifted_object, lifted_signature}
use Rattle.hd_check.specs.Fault.{name_fault}
use Rattle.hd_check.proofs.Telling.{name_none}
use Rattle.hd_check.proofs.Arguments.{named-number}

-- numbers up to this one
abbrev pub AreUpTo : ℕ → List ℕ → Type 0
AreUpTo m us = AllByRecursion (λ u. u ≤ m) us

type_within : (m : ℕ) (types : List (List ℕ)) → length types ≡ m + 1 → (of : Option NameAt) → unknown_type types of ≡ None → type_number types of ≤ m
type_within m types long None e = omega arith
type_within m types long (Some n) e =
    let named = true-from_none (is_named types n.name) (UnknownName (spelled kinds.Name n.name) n.at) e in
    let within = named-number types n.name named in
    omega (arith, within, long)

types_within : (m : ℕ) (types : List (List ℕ)) → length types ≡ m + 1 → (k : ItemKind) (given : List (List ℕ)) (ts : List Typed)
    → declared_fault k types given ts ≡ None → AreUpTo m (types_of types ts)
types_within m types long k given [] e = tt
types_within m types long k given (t ∷ ts) e =
    let parts = option_or_none (duplicate_in k given t.name) (unknown_type types t.of or declared_fault k types (given ++ t.name.name ∷ []) ts) e in
    let later = option_or_none (unknown_type types t.of) (declared_fault k types (given ++ t.name.name ∷ []) ts) parts.1 in
    (type_within m types long t.of later.0, types_within m types long k (given ++ t.name.name ∷ []) ts later.1)

pub objects_within : (m : ℕ) (types : List (List ℕ)) → length types ≡ m + 1 → (k : ItemKind) (given : List (List ℕ)) (ts : List Typed)
    → declared_fault k types given ts ≡ None → AllByRecursion (λ (o : Object). o.of ≤ m) (map (lifted_object types) ts)
objects_within m types long k given [] e = tt
objects_within m types long k given (t ∷ ts) e =
    let parts = option_or_none (duplicate_in k given t.name) (unknown_type types t.of or declared_fault k types (given ++ t.name.name ∷ []) ts) e in
    let later = option_or_none (unknown_type types t.of) (declared_fault k types (given ++ t.name.name ∷ []) ts) parts.1 in
    (type_within m types long t.of later.0, objects_within m types long k (given ++ t.name.name ∷ []) ts later.1)

pub signatures_within : (m : ℕ) (types : List (List ℕ)) → length types ≡ m + 1 → (given : List (List ℕ)) (ss : List trees.Signature)
    → signatures_fault types given ss ≡ None → AllByRecursion (λ (s : Signature). AreUpTo m s.parameters) (map (lifted_signature types) ss)
signatures_within m types long given [] e = tt
signatures_within m types long given (s ∷ ss) e =
    let parts = option_or_none (duplicate_in kinds.Name given s.name) (declared_fault kinds.Variable types [] s.parameters or signatures_fault types (given ++ s.name.name ∷ []) ss) e in
    let later = option_or_none (declared_fault kinds.Variable types [] s.parameters) (signatures_fault types (given ++ s.name.name ∷ []) ss) parts.1 in
    (types_within m types long kinds.Variable [] s.parameters later.0, signatures_within m types long (given ++ s.name.name ∷ []) ss later.1)

pub schemas_within : (m : ℕ) (s : Scope) → length s.types ≡ m + 1 → (given : List (List ℕ)) (as' : List Action)
    → actions_fault s given as' ≡ None → AllByRecursion (λ (a : Schema). AreUpTo m a.parameters) (map (lifted_schema s) as')
unfolding lifted_schema schema_with action_fault
schemas_within m s long given [] e = tt
schemas_within m s long given (a ∷ as') e =
    let parts = option_or_none (name_fault (duplicate_in kinds.Name given a.name)) (action_fault s a or actions_fault s (given ++ a.name.name ∷ []) as') e in
    let later = option_or_none (action_fault s a) (actions_fault s (given ++ a.name.name ∷ []) as') parts.1 in
    let own = option_or_none (name_fault (declared_fault kinds.Variable s.types [] a.parameters)) (body_fault s (parameters_in s a) a) later.0 in
    (types_within m s.types long kinds.Variable [] a.parameters (name_none (declared_fault kinds.Variable s.types [] a.parameters) own.0), schemas_within m s long (given ++ a.name.name ∷ []) as' later.1)
