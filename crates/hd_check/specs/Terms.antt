-- What terms, atoms and expressions stand for, and their first faults. (The rules of types are
-- those of PDDL 2.1.)
use Rattle.std.specs.Prelude.{ℕ, ◌==◌, if◌then◌else◌, List, [], ◌∷◌, map, length, slice_index_or, Option, Some, None, Result}
use Rattle.hd_forms.specs.declared.names.NameAt.{NameAt}
use Rattle.hd_terms.specs.declared.typed.ItemKind.TheVariants as kinds
use Rattle.hd_terms.specs.declared.tree.Term.{Term}
use Rattle.hd_terms.specs.declared.tree.Term.TheVariants.{Name, Variable}
use Rattle.hd_terms.specs.declared.tree.Atom.{Atom}
use Rattle.hd_base.specs.declared.expression.Operand.{Operand}
use Rattle.hd_base.specs.declared.expression.Operand.TheVariants as operands
use Rattle.hd_base.specs.Expression.{Expression, leaf, negate, binary}
use Rattle.hd_terms.specs.declared.tree.Leaf.{Leaf}
use Rattle.hd_terms.specs.declared.tree.Leaf.TheVariants.{Number, Fluent}
use Rattle.hd_lifted.specs.declared.schema.Argument.{Argument}
use Rattle.hd_lifted.specs.declared.schema.Argument.TheVariants.{Parameter, Object}
use Rattle.hd_lifted.specs.declared.schema.AppliedSymbol.{AppliedSymbol}
use Rattle.hd_lifted.specs.Types.{is_subtype}
use Rattle.hd_check.specs.Lifting.{within}
use Rattle.hd_check.specs.declared.context.Context.{Context}
use Rattle.hd_names.specs.declared.scope.Scope.{Scope}
use Rattle.hd_names.specs.declared.table.Table.{Table}
use Rattle.hd_check.specs.declared.fault.CheckFault.{CheckFault}
use Rattle.hd_check.specs.declared.fault.CheckFault.TheVariants.{WrongArity, WrongType}
use Rattle.hd_base.specs.Answers.{Checks}
use Rattle.hd_base.specs.Options.{◌or◌}
use Rattle.hd_check.specs.declared.fault.CheckStop.{CheckStop}
use Rattle.hd_check.specs.Fault.{StopsAt, name_fault}
use Rattle.hd_names.specs.Names.{name_number, unknown_in, spelled}

-- ---- terms, among these parameters

-- a name stands for an object, a variable for a parameter
abbrev pub lifted_term : Scope → Table ℕ → Term → Argument
lifted_term s ps (Name n) = Object (name_number s.objects.names n.name)
lifted_term s ps (Variable n) = Parameter (name_number ps.names n.name)

-- the name has to be declared
abbrev pub term_fault : Scope → Table ℕ → Term → Option CheckFault
term_fault s ps (Name n) = name_fault (unknown_in kinds.Name s.objects.names n)
term_fault s ps (Variable n) = name_fault (unknown_in kinds.Variable ps.names n)

-- the type that is declared of an object or a parameter
abbrev pub type_at : Scope → Table ℕ → Argument → ℕ
type_at s ps (Object n) = slice_index_or s.objects.items n 0
type_at s ps (Parameter n) = slice_index_or ps.items n 0

-- so of what a term stands for
abbrev pub type_of_term : Scope → Table ℕ → Term → ℕ
type_of_term s ps t = type_at s ps (lifted_term s ps t)

-- the fault that a term's type is none below what is wanted
abbrev pub wrong_type : Term → CheckFault
wrong_type (Name n) = WrongType n.name n.at
wrong_type (Variable n) = WrongType (spelled kinds.Variable n.name) n.at

-- a term's type has to be the one that is wanted, or a subtype of it
abbrev pub type_fault : Scope → Table ℕ → Term → ℕ → Option CheckFault
type_fault s ps t wanted = if is_subtype s.hierarchy (type_of_term s ps t) wanted then None else Some (wrong_type t)

-- the fault of an argument for a parameter of this type: its name, then its type
abbrev pub argument_fault : Scope → Table ℕ → Term → ℕ → Option CheckFault
argument_fault s ps t wanted = term_fault s ps t or type_fault s ps t wanted

-- the first fault of arguments for parameters of these types
abbrev pub arguments_fault : Scope → Table ℕ → List Term → List ℕ → Option CheckFault
arguments_fault s ps [] wanted = None
arguments_fault s ps (t ∷ ts) [] = None
arguments_fault s ps (t ∷ ts) (u ∷ us) = argument_fault s ps t u or arguments_fault s ps ts us

-- ---- atoms and fluents: of the predicates, or of the functions

-- the types of the parameters of a number, and of a name
abbrev pub parameters_at : Table (List ℕ) → ℕ → List ℕ
parameters_at symbols k = slice_index_or symbols.items k []

-- the types of the parameters of the predicate or the function with this name
abbrev pub parameters_of : Table (List ℕ) → NameAt → List ℕ
parameters_of symbols n = parameters_at symbols (name_number symbols.names n.name)

-- it has as many arguments as its name has parameters
abbrev pub arity_fault : Table (List ℕ) → Atom → Option CheckFault
arity_fault symbols a =
    if length a.terms == length (parameters_of symbols a.name) then None else Some (WrongArity a.name.name a.name.at)

-- the first fault: the name, then how many arguments there are, then the arguments
abbrev pub applied_fault : Table (List ℕ) → Scope → Table ℕ → Atom → Option CheckFault
applied_fault symbols s ps a =
    name_fault (unknown_in kinds.Name symbols.names a.name) or arity_fault symbols a
    or arguments_fault s ps a.terms (parameters_of symbols a.name)

-- what it stands for
abbrev pub lifted_applied : Table (List ℕ) → Scope → Table ℕ → Atom → AppliedSymbol
lifted_applied symbols s ps a = record {
  symbol = name_number symbols.names a.name.name;
  arguments = map (lifted_term s ps) a.terms;
}

-- ---- expressions

-- the first fault, from the left
abbrev pub expression_fault : Scope → Table ℕ → Expression Leaf → Option CheckFault
expression_fault s ps (leaf (Number at v)) = None
expression_fault s ps (leaf (Fluent a)) = applied_fault s.functions s ps a
expression_fault s ps (negate x) = expression_fault s ps x
expression_fault s ps (binary o x y) = expression_fault s ps x or expression_fault s ps y

-- what an expression stands for
abbrev pub lifted_expression : Scope → Table ℕ → Expression Leaf → Expression (Operand AppliedSymbol)
lifted_expression s ps (leaf (Number at v)) = leaf (operands.Number v)
lifted_expression s ps (leaf (Fluent a)) = leaf (operands.Fluent (lifted_applied s.functions s ps a))
lifted_expression s ps (negate x) = negate (lifted_expression s ps x)
lifted_expression s ps (binary o x y) = binary o (lifted_expression s ps x) (lifted_expression s ps y)

-- ---- what calls answer

-- an argument for a parameter of this type, and arguments for parameters of these types
abbrev pub LiftsArgument : Result Argument CheckStop → Context → Term → ℕ → Type 0
LiftsArgument result c t wanted = Checks StopsAt result (within c argument_fault t wanted) (within c lifted_term t)

-- the arguments for parameters of these types, or a stop at their first fault
abbrev pub LiftsArguments : Result (List Argument) CheckStop → Context → List Term → List ℕ → Type 0
LiftsArguments result c ts wanted = Checks StopsAt result (within c arguments_fault ts wanted) (map (within c lifted_term) ts)

-- an atom or a fluent, of the predicates or the functions
abbrev pub LiftsApplied : Result AppliedSymbol CheckStop → Table (List ℕ) → Context → Atom → Type 0
LiftsApplied result symbols c a =
    Checks StopsAt result (within c (applied_fault symbols) a) (within c (lifted_applied symbols) a)
