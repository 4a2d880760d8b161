-- Without a metric no effect is a cost.
use Rattle.std.proofs.Common.{◌≡◌, ℕ, false, List, [], ◌∷◌, map, Option, Some, None, refl, sym}
use Rattle.std.proofs.lemmas.Option.{none-some}
use Rattle.std.specs.List.{AllByRecursion}
use Rattle.hd_forms.specs.declared.word.ChangeWord as words
use Rattle.hd_forms.specs.declared.word.ChangeWord.TheVariants as changes
use Rattle.hd_terms.specs.declared.tree.Effect.{Effect}
use Rattle.hd_terms.specs.declared.tree.Effect.TheVariants as effects
use Rattle.hd_pddl.specs.declared.tree.Action.{Action}
use Rattle.hd_pddl.specs.declared.tree.DomainAst.{DomainAst}
use Rattle.hd_pddl.specs.declared.tree.ProblemAst.{ProblemAst}
use Rattle.hd_lifted.specs.declared.schema.NumericEffect.{NumericEffect}
use Rattle.hd_lifted.specs.Effects.{is_cost}
use Rattle.hd_names.specs.declared.scope.Scope.{Scope}
use Rattle.hd_names.specs.declared.table.Table.{Table}
use Rattle.hd_names.specs.Names.{name_number}
use Rattle.hd_names.specs.Scope.{type_names, parents_of, scope_of, with_objects}
use Rattle.hd_check.specs.Effects.{is_metric, lifted_change, changes_in}
use Rattle.hd_check.specs.Schemas.{parameters_in, schema_with, lifted_schema}
use Rattle.hd_lifted.specs.MetricUse.{HasNoCost}
use Rattle.hd_check.specs.Whole.{domain_in, lifted_domain, problem_in, lifted_problem, task_with, task_behind, task_below, lifted_task}

no_cost : (metric : Option ℕ) (f : ℕ) (c : words.ChangeWord) → metric ≡ None → is_cost (lifted_change (is_metric metric f) c) ≡ false
no_cost (Some m) f c e = absurd (none-some m (sym e))
no_cost None f changes.Assign e = refl
no_cost None f changes.ScaleUp e = refl
no_cost None f changes.Increase e = refl
no_cost None f changes.Decrease e = refl

effects_free : (s : Scope) (ps : Table ℕ) → s.metric ≡ None → (es : List Effect)
    → AllByRecursion (λ (e : NumericEffect). is_cost e.change ≡ false) (changes_in s ps es)
effects_free s ps none [] = tt
effects_free s ps none (effects.Add a ∷ es) = effects_free s ps none es
effects_free s ps none (effects.Delete a ∷ es) = effects_free s ps none es
effects_free s ps none (effects.Change c ∷ es) =
    (no_cost s.metric (name_number s.functions.names c.fluent.name.name) c.change none, effects_free s ps none es)

schemas_free : (s : Scope) → s.metric ≡ None → (as' : List Action) → AllByRecursion HasNoCost (map (lifted_schema s) as')
unfolding lifted_schema schema_with
schemas_free s none [] = tt
schemas_free s none (a ∷ as') = (effects_free s (parameters_in s a) none a.effect, schemas_free s none as')

below : (types : List (List ℕ)) (parents : List ℕ) (d : DomainAst) (p : ProblemAst) → (task_below types parents d p).metric ≡ None
    → AllByRecursion HasNoCost (task_below types parents d p).schemas
unfolding scope_of with_objects lifted_domain domain_in lifted_problem problem_in task_with task_behind task_below
below types parents d p none = schemas_free (scope_of types parents d p.metric) none d.actions

pub costs_nothing : (d : DomainAst) (p : ProblemAst) → (lifted_task d p).metric ≡ None → AllByRecursion HasNoCost (lifted_task d p).schemas
costs_nothing d p none = below (type_names d.types) (parents_of d.types) d p none
