-- What conditions stand for, and their first faults. (The rules of names are those of PDDL 2.1.)
use Rattle.std.specs.Prelude.{ℕ, Bool, true, false, List, [], ◌∷◌, ◌++◌, Option, None, Result}
use Rattle.hd_terms.specs.declared.tree.Atom.{Atom}
use Rattle.hd_terms.specs.declared.tree.Condition as trees
use Rattle.hd_terms.specs.declared.tree.Comparison as compared
use Rattle.hd_terms.specs.declared.tree.Condition.TheVariants as conditions
use Rattle.hd_terms.specs.declared.tree.Term.{Term}
use Rattle.hd_lifted.specs.declared.schema.Literal.{Literal}
use Rattle.hd_lifted.specs.declared.schema.Equality.{Equality}
use Rattle.hd_lifted.specs.declared.schema.Comparison.{Comparison}
use Rattle.hd_lifted.specs.declared.schema.Condition.{Condition}
use Rattle.hd_check.specs.declared.conditions.FoundConditions.{FoundConditions}
use Rattle.hd_check.specs.Lifting.{within}
use Rattle.hd_check.specs.declared.context.Context.{Context}
use Rattle.hd_names.specs.declared.scope.Scope.{Scope}
use Rattle.hd_names.specs.declared.table.Table.{Table}
use Rattle.hd_check.specs.declared.fault.CheckFault.{CheckFault}
use Rattle.hd_base.specs.Answers.{Checks, ChecksInto}
use Rattle.hd_base.specs.Options.{◌or◌}
use Rattle.hd_check.specs.declared.fault.CheckStop.{CheckStop}
use Rattle.hd_check.specs.Fault.{StopsAt}
use Rattle.hd_check.specs.Terms.{lifted_term, term_fault, applied_fault, lifted_applied, expression_fault, lifted_expression}

-- the first fault of an equality of objects, which may be of any types
abbrev pub equality_fault : Scope → Table ℕ → Term → Term → Option CheckFault
equality_fault s ps t u = term_fault s ps t or term_fault s ps u

-- the first fault of a comparison
abbrev pub comparison_fault : Scope → Table ℕ → compared.Comparison → Option CheckFault
comparison_fault s ps c = expression_fault s ps c.left or expression_fault s ps c.right

-- the first fault of a part, from the left
abbrev pub part_fault : Scope → Table ℕ → trees.Condition → Option CheckFault
part_fault s ps (conditions.Atom a) = applied_fault s.predicates s ps a
part_fault s ps (conditions.NotAtom a) = applied_fault s.predicates s ps a
part_fault s ps (conditions.Equal t u) = equality_fault s ps t u
part_fault s ps (conditions.NotEqual t u) = equality_fault s ps t u
part_fault s ps (conditions.Compare c) = comparison_fault s ps c

-- the first fault of a condition
abbrev pub condition_fault : Scope → Table ℕ → List trees.Condition → Option CheckFault
condition_fault s ps [] = None
condition_fault s ps (c ∷ cs) = part_fault s ps c or condition_fault s ps cs

-- an atom that has to be true, or false
abbrev pub lifted_literal : Scope → Table ℕ → Bool → Atom → Literal
lifted_literal s ps positive a = record { atom = lifted_applied s.predicates s ps a; positive = positive }

-- two terms that have to be the same object, or not
abbrev pub lifted_equality : Scope → Table ℕ → Bool → Term → Term → Equality
lifted_equality s ps positive t u = record { left = lifted_term s ps t; right = lifted_term s ps u; positive = positive }

-- a comparison of what its sides stand for
abbrev pub lifted_comparison : Scope → Table ℕ → compared.Comparison → Comparison
lifted_comparison s ps c = record {
  relation = c.relation;
  left = lifted_expression s ps c.left;
  right = lifted_expression s ps c.right;
}

-- the literal that a part is, if it is one
abbrev pub literals_of : Scope → Table ℕ → trees.Condition → List Literal
literals_of s ps (conditions.Atom a) = lifted_literal s ps true a ∷ []
literals_of s ps (conditions.NotAtom a) = lifted_literal s ps false a ∷ []
literals_of s ps (conditions.Equal t u) = []
literals_of s ps (conditions.NotEqual t u) = []
literals_of s ps (conditions.Compare c) = []

-- the equality of objects that a part is, if it is one
abbrev pub equalities_of : Scope → Table ℕ → trees.Condition → List Equality
equalities_of s ps (conditions.Atom a) = []
equalities_of s ps (conditions.NotAtom a) = []
equalities_of s ps (conditions.Equal t u) = lifted_equality s ps true t u ∷ []
equalities_of s ps (conditions.NotEqual t u) = lifted_equality s ps false t u ∷ []
equalities_of s ps (conditions.Compare c) = []

-- the comparison of numbers that a part is, if it is one
abbrev pub comparisons_of : Scope → Table ℕ → trees.Condition → List Comparison
comparisons_of s ps (conditions.Atom a) = []
comparisons_of s ps (conditions.NotAtom a) = []
comparisons_of s ps (conditions.Equal t u) = []
comparisons_of s ps (conditions.NotEqual t u) = []
comparisons_of s ps (conditions.Compare c) = lifted_comparison s ps c ∷ []

-- the literals of a condition, in the text's order
abbrev pub literals_in : Scope → Table ℕ → List trees.Condition → List Literal
literals_in s ps [] = []
literals_in s ps (c ∷ cs) = literals_of s ps c ++ literals_in s ps cs

-- its equalities of objects
abbrev pub equalities_in : Scope → Table ℕ → List trees.Condition → List Equality
equalities_in s ps [] = []
equalities_in s ps (c ∷ cs) = equalities_of s ps c ++ equalities_in s ps cs

-- its comparisons of numbers
abbrev pub comparisons_in : Scope → Table ℕ → List trees.Condition → List Comparison
comparisons_in s ps [] = []
comparisons_in s ps (c ∷ cs) = comparisons_of s ps c ++ comparisons_in s ps cs

-- what a condition stands for
abbrev pub lifted_condition : Scope → Table ℕ → List trees.Condition → Condition
lifted_condition s ps cs = record {
  literals = literals_in s ps cs;
  equalities = equalities_in s ps cs;
  comparisons = comparisons_in s ps cs;
}

-- ---- what calls answer

-- the literal of an atom or its negation, with names resolved, or a stop at its first fault
abbrev pub LiftsLiteral : Result Literal CheckStop → Context → Bool → Atom → Type 0
LiftsLiteral result c positive a =
    Checks StopsAt result (within c (applied_fault c.scope.now.predicates) a) (within c lifted_literal positive a)

-- the equality or inequality of two terms, with names resolved, or a stop at its first fault
abbrev pub LiftsEquality : Result Equality CheckStop → Context → Bool → Term → Term → Type 0
LiftsEquality result c positive t u =
    Checks StopsAt result (within c equality_fault t u) (within c lifted_equality positive t u)

-- what was found of a condition, with what a part stands for after it
abbrev pub GathersLiterals : {R : Type 0} → Result R CheckStop → FoundConditions → FoundConditions → Context → trees.Condition → Type 0
GathersLiterals result old new c part =
    ChecksInto StopsAt result new.literals.items (within c part_fault part) (old.literals.items ++ within c literals_of part)

-- the equalities found so far, and then that of a part, if it is one; or a stop at its fault
abbrev pub GathersEqualities : {R : Type 0} → Result R CheckStop → FoundConditions → FoundConditions → Context → trees.Condition → Type 0
GathersEqualities result old new c part =
    ChecksInto StopsAt result new.equalities.items (within c part_fault part) (old.equalities.items ++ within c equalities_of part)

-- the comparisons found so far, and then that of a part, if it is one; or a stop at its fault
abbrev pub GathersComparisons : {R : Type 0} → Result R CheckStop → FoundConditions → FoundConditions → Context → trees.Condition → Type 0
GathersComparisons result old new c part =
    ChecksInto StopsAt result new.comparisons.items (within c part_fault part) (old.comparisons.items ++ within c comparisons_of part)
