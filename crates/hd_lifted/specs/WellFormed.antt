-- When a lifted task is well formed: each number in it is that of something declared, and arguments
-- are of the types asked. (The rules of names and types are those of PDDL 2.1.)
use Rattle.std.specs.Prelude.{◌≡◌, ◌≢◌, ◌≤◌, ℕ, true, false, List, [], ◌∷◌, ◌++◌, map, length, slice_get}
use Rattle.std.specs.List.{AllZip, AllByRecursion}
use Rattle.std.specs.Option.{IsSomeAnd}
use Rattle.hd_base.specs.declared.expression.Operand.{Operand}
use Rattle.hd_base.specs.declared.expression.Operand.TheVariants.{Number, Fluent}
use Rattle.hd_base.specs.Names.{is_named}
use Rattle.hd_base.specs.Numbers.{in_range}
use Rattle.hd_base.specs.Expression.{Expression, leaf, negate, binary}
use Rattle.hd_lifted.specs.declared.schema.Argument.{Argument}
use Rattle.hd_lifted.specs.declared.schema.Argument.TheVariants.{Parameter, Object}
use Rattle.hd_lifted.specs.declared.schema.AppliedSymbol.{AppliedSymbol}
use Rattle.hd_lifted.specs.declared.schema.Ground.{Ground}
use Rattle.hd_lifted.specs.declared.schema.Literal.{Literal}
use Rattle.hd_lifted.specs.declared.schema.Equality.{Equality}
use Rattle.hd_lifted.specs.declared.schema.Comparison.{Comparison}
use Rattle.hd_lifted.specs.declared.schema.Condition.{Condition}
use Rattle.hd_lifted.specs.declared.schema.NumericEffect.{NumericEffect}
use Rattle.hd_lifted.specs.declared.schema.Schema.{Schema}
use Rattle.hd_lifted.specs.declared.task.InitialValue.{InitialValue}
use Rattle.hd_lifted.specs.declared.task.LiftedTask.{LiftedTask}
use Rattle.hd_lifted.specs.declared.task.Object as declared
use Rattle.hd_lifted.specs.declared.task.Signature.{Signature}
use Rattle.hd_lifted.specs.Objects.{IsOfType, AreOfTypes}
use Rattle.hd_lifted.specs.Types.{IsSubtype}

-- ---- arguments, where the parameters are of these types

-- an argument is of a type: a parameter whose type is that one or below it, or an object that is of
-- it
abbrev pub IsArgumentOf : LiftedTask → List ℕ → Argument → ℕ → Type 0
IsArgumentOf t ps (Parameter k) wanted = IsSomeAnd (slice_get ps k) (λ u. IsSubtype t.hierarchy u wanted)
IsArgumentOf t ps (Object o) wanted = IsOfType t o wanted

-- an atom or a fluent: its predicate or function is declared, and its arguments are as many as
-- asked, each of the type asked
abbrev pub IsApplied : LiftedTask → List Signature → List ℕ → AppliedSymbol → Type 0
IsApplied t symbols ps a = IsSomeAnd (slice_get symbols a.symbol) (λ s. AllZip (IsArgumentOf t ps) a.arguments s.parameters)

-- the same of a ground atom or fluent
abbrev pub IsGround : LiftedTask → List Signature → Ground → Type 0
IsGround t symbols g = IsSomeAnd (slice_get symbols g.symbol) (λ s. AreOfTypes t g.objects s.parameters)

-- an argument that may be of any type: each type is below `object`, which is type 0
abbrev pub IsArgument : LiftedTask → List ℕ → Argument → Type 0
IsArgument t ps a = IsArgumentOf t ps a 0

-- a first value: its fluent, and that it is in the range
abbrev pub IsFirstValue : LiftedTask → InitialValue → Type 0
IsFirstValue t v = IsGround t t.functions v.fluent × (in_range v.value ≡ true)

-- ---- expressions, conditions and effects

-- each fluent of an expression is one of the task
abbrev pub IsExpression : LiftedTask → List ℕ → Expression (Operand AppliedSymbol) → Type 0
IsExpression t ps (leaf (Number v)) = Unit {0}
IsExpression t ps (leaf (Fluent a)) = IsApplied t t.functions ps a
IsExpression t ps (negate x) = IsExpression t ps x
IsExpression t ps (binary o x y) = IsExpression t ps x × IsExpression t ps y

-- a literal's atom is one of the task
abbrev pub IsLiteral : LiftedTask → List ℕ → Literal → Type 0
IsLiteral t ps l = IsApplied t t.predicates ps l.atom

-- both sides of an equality are arguments
abbrev pub IsEqualityIn : LiftedTask → List ℕ → Equality → Type 0
IsEqualityIn t ps e = IsArgument t ps e.left × IsArgument t ps e.right

-- both sides of a comparison are expressions
abbrev pub IsComparison : LiftedTask → List ℕ → Comparison → Type 0
IsComparison t ps c = IsExpression t ps c.left × IsExpression t ps c.right

-- a condition: so are its parts
pub record IsConditionIn (t : LiftedTask) (ps : List ℕ) (c : Condition) : Type 0 where
  pub literals : AllByRecursion (IsLiteral t ps) c.literals
  pub equalities : AllByRecursion (IsEqualityIn t ps) c.equalities
  pub comparisons : AllByRecursion (IsComparison t ps) c.comparisons

-- a numeric effect: its fluent and its amount
abbrev pub IsEffectIn : LiftedTask → List ℕ → NumericEffect → Type 0
IsEffectIn t ps e = IsApplied t t.functions ps e.fluent × IsExpression t ps e.amount

-- a schema: its condition and its effects, with its own parameters
pub record IsSchema (t : LiftedTask) (a : Schema) : Type 0 where
  pub condition : IsConditionIn t a.parameters a.condition
  pub deletes : AllByRecursion (IsApplied t t.predicates a.parameters) a.deletes
  pub adds : AllByRecursion (IsApplied t t.predicates a.parameters) a.adds
  pub effects : AllByRecursion (IsEffectIn t a.parameters) a.effects

-- no two of these values are of one fluent
abbrev pub AreOfDifferentFluents : List InitialValue → Type 0
AreOfDifferentFluents [] = Unit {0}
AreOfDifferentFluents (v ∷ vs) = AllByRecursion (λ (w : InitialValue). v.fluent ≢ w.fluent) vs × AreOfDifferentFluents vs

-- ---- names

-- each of these names is none of those before it, and none of the given ones
abbrev pub AreNew : List (List ℕ) → List (List ℕ) → Type 0
AreNew given [] = Unit {0}
AreNew given (n ∷ names) = (is_named given n ≡ false) × AreNew (given ++ n ∷ []) names

-- no name stands twice
abbrev pub AreDistinct : List (List ℕ) → Type 0
AreDistinct names = AreNew [] names

-- no two objects, no two predicates, no two functions and no two schemas have one name
pub record HasDistinctNames (t : LiftedTask) : Type 0 where
  pub objects : AreDistinct (map (λ (o : declared.Object). o.name) t.objects)
  pub predicates : AreDistinct (map (λ (s : Signature). s.name) t.predicates)
  pub functions : AreDistinct (map (λ (s : Signature). s.name) t.functions)
  pub schemas : AreDistinct (map (λ (a : Schema). a.name) t.schemas)

-- ---- types

-- a number is that of a type: `object`, which is 0, or one that has a type above it
abbrev pub IsType : LiftedTask → ℕ → Type 0
IsType t u = u ≤ length t.hierarchy

-- these are the types of parameters
abbrev pub AreTypes : LiftedTask → List ℕ → Type 0
AreTypes t us = AllByRecursion (IsType t) us

-- an object, a predicate or a function, and a schema have types
abbrev pub HasType : LiftedTask → declared.Object → Type 0
HasType t o = IsType t o.of

-- each parameter of a predicate or a function has a type of the task
abbrev pub SignatureHasTypes : LiftedTask → Signature → Type 0
SignatureHasTypes t s = AreTypes t s.parameters

-- each parameter of a schema has a type of the task
abbrev pub SchemaHasTypes : LiftedTask → Schema → Type 0
SchemaHasTypes t a = AreTypes t a.parameters

-- ---- the whole

-- what is declared has types; the schemas, the goal, which has no parameters, and what holds at
-- first are well formed
pub record IsWellFormed (t : LiftedTask) : Type 0 where
  pub objects : AllByRecursion (HasType t) t.objects
  pub predicates : AllByRecursion (SignatureHasTypes t) t.predicates
  pub functions : AllByRecursion (SignatureHasTypes t) t.functions
  pub parameters : AllByRecursion (SchemaHasTypes t) t.schemas
  pub schemas : AllByRecursion (IsSchema t) t.schemas
  pub goal : IsConditionIn t [] t.goal
  pub atoms : AllByRecursion (IsGround t t.predicates) t.atoms
  pub values : AllByRecursion (IsFirstValue t) t.values
