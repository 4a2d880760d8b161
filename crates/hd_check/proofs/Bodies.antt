-- What conditions, effects and actions without a fault stand for is well formed.
use Rattle.std.proofs.lemmas.List.{length-map}
use Rattle.hd_base.proofs.Options.{option_or_none}
use Rattle.std.proofs.Common.{◌≡◌, ℕ, Bool, true, false, List, [], ◌∷◌, ◌++◌, map, length, None, sym, ◌∙◌}
use Rattle.std.specs.List.{AllByRecursion}
use Rattle.hd_terms.specs.declared.typed.ItemKind.TheVariants as kinds
use Rattle.hd_terms.specs.declared.tree.Term.{Term}
use Rattle.hd_terms.specs.declared.tree.Typed.{Typed}
use Rattle.hd_terms.specs.declared.tree.Condition.{Condition}
use Rattle.hd_terms.specs.declared.tree.Condition.TheVariants as conditions
use Rattle.hd_terms.specs.declared.tree.Comparison.{Comparison}
use Rattle.hd_terms.specs.declared.tree.Effect.{Effect}
use Rattle.hd_terms.specs.declared.tree.Effect.TheVariants as effects
use Rattle.hd_terms.specs.declared.tree.FluentChange.{FluentChange}
use Rattle.hd_base.specs.Expression as trees
use Rattle.hd_terms.specs.declared.tree.Leaf.{Leaf}
use Rattle.hd_terms.specs.declared.tree.Leaf.TheVariants.{Number, Fluent}
use Rattle.hd_pddl.specs.declared.tree.Action.{Action}
use Rattle.hd_lifted.specs.declared.task.LiftedTask.{LiftedTask}
use Rattle.hd_lifted.specs.Types.{object}
use Rattle.hd_names.specs.declared.scope.Scope.{Scope}
use Rattle.hd_names.specs.declared.table.Table.{Table}
use Rattle.hd_base.specs.Options.{◌or◌}
use Rattle.hd_names.specs.Names.{duplicate_in, declared_fault, type_number}
use Rattle.hd_check.specs.Terms.{lifted_term, term_fault, type_of_term, applied_fault, expression_fault, lifted_expression}
use Rattle.hd_check.specs.Conditions.{part_fault, condition_fault, comparison_fault, lifted_condition, lifted_equality, lifted_comparison}
use Rattle.hd_check.specs.Effects.{effects_fault, change_fault, lifted_effect, adds_in, deletes_in, changes_in}
use Rattle.hd_check.specs.Schemas.{parameters_in, body_fault, action_fault, actions_fault, schema_with, lifted_schema}
use Rattle.hd_lifted.specs.WellFormed.{IsArgument, IsApplied, IsExpression, IsEqualityIn, IsComparison, IsConditionIn, IsEffectIn, IsSchema}
use Rattle.hd_check.specs.Fault.{name_fault}
use Rattle.hd_check.proofs.Arguments.{Agrees, placed, applied}

-- ---- conditions

pub expression : (t : LiftedTask) (s : Scope) (ps : Table ℕ) → Agrees t s → length ps.items ≡ length ps.names → (x : trees.Expression Leaf)
    → expression_fault s ps x ≡ None → IsExpression t ps.items (lifted_expression s ps x)
expression t s ps g long (trees.leaf (Number at v)) e = tt
expression t s ps g long (trees.leaf (Fluent a)) e = applied t s ps g long t.functions s.functions g.functions a e
expression t s ps g long (trees.negate x) e = expression t s ps g long x e
expression t s ps g long (trees.binary o x y) e =
    let parts = option_or_none (expression_fault s ps x) (expression_fault s ps y) e in
    (expression t s ps g long x parts.0, expression t s ps g long y parts.1)

side : (t : LiftedTask) (s : Scope) (ps : Table ℕ) → Agrees t s → length ps.items ≡ length ps.names → (x : Term)
    → term_fault s ps x ≡ None → IsArgument t ps.items (lifted_term s ps x)
side t s ps g long x e = placed t s ps g long x 0 e (object (type_of_term s ps x))

equality : (t : LiftedTask) (s : Scope) (ps : Table ℕ) → Agrees t s → length ps.items ≡ length ps.names → (positive : Bool) (x y : Term)
    → (term_fault s ps x or term_fault s ps y) ≡ None → IsEqualityIn t ps.items (lifted_equality s ps positive x y)
equality t s ps g long positive x y e =
    let parts = option_or_none (term_fault s ps x) (term_fault s ps y) e in
    (side t s ps g long x parts.0, side t s ps g long y parts.1)

comparison : (t : LiftedTask) (s : Scope) (ps : Table ℕ) → Agrees t s → length ps.items ≡ length ps.names → (c : Comparison)
    → comparison_fault s ps c ≡ None → IsComparison t ps.items (lifted_comparison s ps c)
comparison t s ps g long c e =
    let parts = option_or_none (expression_fault s ps c.left) (expression_fault s ps c.right) e in
    (expression t s ps g long c.left parts.0, expression t s ps g long c.right parts.1)

-- a condition without a fault
pub condition : (t : LiftedTask) (s : Scope) (ps : Table ℕ) → Agrees t s → length ps.items ≡ length ps.names → (cs : List Condition)
    → condition_fault s ps cs ≡ None → IsConditionIn t ps.items (lifted_condition s ps cs)
condition t s ps g long [] e = record { literals = tt; equalities = tt; comparisons = tt }
condition t s ps g long (conditions.Atom a ∷ cs) e =
    let parts = option_or_none (applied_fault s.predicates s ps a) (condition_fault s ps cs) e in
    let rest = condition t s ps g long cs parts.1 in
    let first = applied t s ps g long t.predicates s.predicates g.predicates a parts.0 in
    record { literals = (first, rest.literals); equalities = rest.equalities; comparisons = rest.comparisons }
condition t s ps g long (conditions.NotAtom a ∷ cs) e =
    let parts = option_or_none (applied_fault s.predicates s ps a) (condition_fault s ps cs) e in
    let rest = condition t s ps g long cs parts.1 in
    let first = applied t s ps g long t.predicates s.predicates g.predicates a parts.0 in
    record { literals = (first, rest.literals); equalities = rest.equalities; comparisons = rest.comparisons }
condition t s ps g long (conditions.Equal x y ∷ cs) e =
    let parts = option_or_none (part_fault s ps (conditions.Equal x y)) (condition_fault s ps cs) e in
    let rest = condition t s ps g long cs parts.1 in
    record { literals = rest.literals; equalities = (equality t s ps g long true x y parts.0, rest.equalities); comparisons = rest.comparisons }
condition t s ps g long (conditions.NotEqual x y ∷ cs) e =
    let parts = option_or_none (part_fault s ps (conditions.NotEqual x y)) (condition_fault s ps cs) e in
    let rest = condition t s ps g long cs parts.1 in
    record { literals = rest.literals; equalities = (equality t s ps g long false x y parts.0, rest.equalities); comparisons = rest.comparisons }
condition t s ps g long (conditions.Compare c ∷ cs) e =
    let parts = option_or_none (part_fault s ps (conditions.Compare c)) (condition_fault s ps cs) e in
    let rest = condition t s ps g long cs parts.1 in
    record { literals = rest.literals; equalities = rest.equalities; comparisons = (comparison t s ps g long c parts.0, rest.comparisons) }

-- ---- effects

change : (t : LiftedTask) (s : Scope) (ps : Table ℕ) → Agrees t s → length ps.items ≡ length ps.names → (c : FluentChange)
    → change_fault s ps c ≡ None → IsEffectIn t ps.items (lifted_effect s ps c)
change t s ps g long c e =
    let parts = option_or_none (applied_fault s.functions s ps c.fluent) (expression_fault s ps c.amount) e in
    (applied t s ps g long t.functions s.functions g.functions c.fluent parts.0, expression t s ps g long c.amount parts.1)

-- the parts of an effect are well formed
record AreEffects (t : LiftedTask) (s : Scope) (ps : Table ℕ) (es : List Effect) : Type 0 where
  deletes : AllByRecursion (IsApplied t t.predicates ps.items) (deletes_in s ps es)
  adds : AllByRecursion (IsApplied t t.predicates ps.items) (adds_in s ps es)
  changes : AllByRecursion (IsEffectIn t ps.items) (changes_in s ps es)

effects_of : (t : LiftedTask) (s : Scope) (ps : Table ℕ) → Agrees t s → length ps.items ≡ length ps.names → (es : List Effect)
    → effects_fault s ps es ≡ None → AreEffects t s ps es
effects_of t s ps g long [] e = record { deletes = tt; adds = tt; changes = tt }
effects_of t s ps g long (effects.Add a ∷ es) e =
    let parts = option_or_none (applied_fault s.predicates s ps a) (effects_fault s ps es) e in
    let rest = effects_of t s ps g long es parts.1 in
    let first = applied t s ps g long t.predicates s.predicates g.predicates a parts.0 in
    record { deletes = rest.deletes; adds = (first, rest.adds); changes = rest.changes }
effects_of t s ps g long (effects.Delete a ∷ es) e =
    let parts = option_or_none (applied_fault s.predicates s ps a) (effects_fault s ps es) e in
    let rest = effects_of t s ps g long es parts.1 in
    let first = applied t s ps g long t.predicates s.predicates g.predicates a parts.0 in
    record { deletes = (first, rest.deletes); adds = rest.adds; changes = rest.changes }
effects_of t s ps g long (effects.Change c ∷ es) e =
    let parts = option_or_none (change_fault s ps c) (effects_fault s ps es) e in
    let rest = effects_of t s ps g long es parts.1 in
    record { deletes = rest.deletes; adds = rest.adds; changes = (change t s ps g long c parts.0, rest.changes) }

-- ---- actions

-- what is made of a list is as long, whatever is made of each
schema_of : (t : LiftedTask) (s : Scope) (ps : Table ℕ) → Agrees t s → length ps.items ≡ length ps.names → (a : Action)
    → body_fault s ps a ≡ None → IsSchema t (schema_with s ps a)
unfolding body_fault schema_with
schema_of t s ps g long a e =
    let parts = option_or_none (condition_fault s ps a.precondition) (effects_fault s ps a.effect) e in
    let body = effects_of t s ps g long a.effect parts.1 in
    record { condition = condition t s ps g long a.precondition parts.0; deletes = body.deletes; adds = body.adds; effects = body.changes }

schema : (t : LiftedTask) (s : Scope) → Agrees t s → (a : Action) → action_fault s a ≡ None → IsSchema t (lifted_schema s a)
unfolding action_fault lifted_schema
schema t s g a e =
    let parts = option_or_none (name_fault (declared_fault kinds.Variable s.types [] a.parameters)) (body_fault s (parameters_in s a) a) e in
    schema_of t s (parameters_in s a) g (length-map a.parameters (λ (x : Typed). type_number s.types x.of) ∙ sym (length-map a.parameters (λ (x : Typed). x.name.name))) a parts.1

-- actions without a fault
pub schemas : (t : LiftedTask) (s : Scope) → Agrees t s → (names : List (List ℕ)) (as' : List Action)
    → actions_fault s names as' ≡ None → AllByRecursion (IsSchema t) (map (lifted_schema s) as')
schemas t s g names [] e = tt
schemas t s g names (a ∷ as') e =
    let parts = option_or_none (name_fault (duplicate_in kinds.Name names a.name)) (action_fault s a or actions_fault s (names ++ a.name.name ∷ []) as') e in
    let later = option_or_none (action_fault s a) (actions_fault s (names ++ a.name.name ∷ []) as') parts.1 in
    (schema t s g a later.0, schemas t s g (names ++ a.name.name ∷ []) as' later.1)
