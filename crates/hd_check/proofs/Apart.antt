-- No fault and a task exclude each other; and names of texts without a fault are distinct.
use Rattle.std.proofs.Common.{◌≡◌, ℕ, suc, List, [], ◌∷◌, ◌++◌, map, None, refl, sym, ap, ◌∙◌, subst}
use Rattle.std.proofs.lemmas.List.{map-append, append-nil, append_assoc}
use Rattle.std.proofs.lemmas.Option.{none-some}
use Rattle.hd_base.proofs.Options.{option_or_none, false-from_none}
use Rattle.hd_terms.specs.declared.typed.ItemKind.{ItemKind}
use Rattle.hd_terms.specs.declared.typed.ItemKind.TheVariants as kinds
use Rattle.hd_terms.specs.declared.tree.Typed.{Typed}
use Rattle.hd_pddl.specs.declared.tree.Action.{Action}
use Rattle.hd_pddl.specs.declared.tree.DomainAst.{DomainAst}
use Rattle.hd_pddl.specs.declared.tree.ProblemAst.{ProblemAst}
use Rattle.hd_pddl.specs.declared.tree.Signature as trees
use Rattle.hd_lifted.specs.declared.schema.Schema.{Schema}
use Rattle.hd_lifted.specs.declared.task.Object.{Object}
use Rattle.hd_lifted.specs.declared.task.Signature.{Signature}
use Rattle.hd_check.specs.declared.fault.CheckError.{CheckError}
use Rattle.hd_names.specs.declared.fault.NameFault.TheVariants.{Duplicate}
use Rattle.hd_names.specs.declared.scope.Scope.{Scope}
use Rattle.hd_base.specs.Options.{◌or◌}
use Rattle.hd_base.specs.Names.{is_named}
use Rattle.hd_names.specs.Names.{spelled, names_declared, declared_fault, duplicate_in, unknown_type}
use Rattle.hd_names.specs.Scope.{type_names, parents_of, signatures_fault, scope_of, with_objects}
use Rattle.hd_check.specs.Schemas.{action_fault, actions_fault, schema_with, lifted_schema}
use Rattle.hd_lifted.specs.WellFormed.{AreNew, HasDistinctNames}
use Rattle.hd_check.specs.Whole.{lifted_object, lifted_signature, domain_in, lifted_domain, problem_in, lifted_problem, task_with, task_behind, task_below, lifted_task, fault_below, AreFaultlessTexts, StandsInTexts, before_cycles, on_cycle, behind_cycles}
use Rattle.hd_check.specs.Fault.{name_fault}
use Rattle.hd_check.proofs.NoFaults.{domain_scope, all_clear}
use Rattle.hd_check.proofs.Telling.{name_none}

-- where a fault stands there is a fault
pub exclusive : (d : DomainAst) (p : ProblemAst) (e : CheckError) → StandsInTexts d p e → AreFaultlessTexts d p → ⊥
exclusive d p told (before_cycles e first) clean = none-some e (sym clean.before_cycles ∙ first)
exclusive d p told (on_cycle f none tells) clean = clean.acyclic (suc tells.place) tells.cycle
exclusive d p told (behind_cycles e none acyclic first) clean = none-some e (sym clean.behind_cycles ∙ first)

-- ---- names of lists

new-append : (given as' bs : List (List ℕ)) → AreNew given as' → AreNew (given ++ as') bs → AreNew given (as' ++ bs)
new-append given [] bs h k = subst (λ (g : List (List ℕ)). AreNew g bs) (append-nil given) k
new-append given (a ∷ as') bs (h, hs) k =
    (h, new-append (given ++ a ∷ []) as' bs hs (subst (λ (g : List (List ℕ)). AreNew g bs) (sym (append_assoc given (a ∷ []) as')) k))

declared_new : (k : ItemKind) (types given : List (List ℕ)) (ts : List Typed) → declared_fault k types given ts ≡ None → AreNew given (names_declared ts)
declared_new k types given [] e = tt
declared_new k types given (t ∷ ts) e =
    let parts = option_or_none (duplicate_in k given t.name) (unknown_type types t.of or declared_fault k types (given ++ t.name.name ∷ []) ts) e in
    let later = option_or_none (unknown_type types t.of) (declared_fault k types (given ++ t.name.name ∷ []) ts) parts.1 in (
      false-from_none (is_named given t.name.name) (Duplicate (spelled k t.name.name) t.name.at) parts.0,
      declared_new k types (given ++ t.name.name ∷ []) ts later.1,
    )

signatures_new : (types given : List (List ℕ)) (ss : List trees.Signature) → signatures_fault types given ss ≡ None
    → AreNew given (map (λ (s : Signature). s.name) (map (lifted_signature types) ss))
signatures_new types given [] e = tt
signatures_new types given (s ∷ ss) e =
    let parts = option_or_none (duplicate_in kinds.Name given s.name) (declared_fault kinds.Variable types [] s.parameters or signatures_fault types (given ++ s.name.name ∷ []) ss) e in
    let later = option_or_none (declared_fault kinds.Variable types [] s.parameters) (signatures_fault types (given ++ s.name.name ∷ []) ss) parts.1 in (
      false-from_none (is_named given s.name.name) (Duplicate (spelled kinds.Name s.name.name) s.name.at) parts.0,
      signatures_new types (given ++ s.name.name ∷ []) ss later.1,
    )

actions_new : (s : Scope) (given : List (List ℕ)) (as' : List Action) → actions_fault s given as' ≡ None
    → AreNew given (map (λ (a : Schema). a.name) (map (lifted_schema s) as'))
unfolding lifted_schema schema_with
actions_new s given [] e = tt
actions_new s given (a ∷ as') e =
    let parts = option_or_none (name_fault (duplicate_in kinds.Name given a.name)) (action_fault s a or actions_fault s (given ++ a.name.name ∷ []) as') e in
    let later = option_or_none (action_fault s a) (actions_fault s (given ++ a.name.name ∷ []) as') parts.1 in (
      false-from_none (is_named given a.name.name) (Duplicate (spelled kinds.Name a.name.name) a.name.at) (name_none (duplicate_in kinds.Name given a.name) parts.0),
      actions_new s (given ++ a.name.name ∷ []) as' later.1,
    )

objects_named : (types : List (List ℕ)) (ts : List Typed) → map (λ (o : Object). o.name) (map (lifted_object types) ts) ≡ names_declared ts
objects_named types [] = refl
objects_named types (t ∷ ts) = ap (λ (names : List (List ℕ)). t.name.name ∷ names) (objects_named types ts)

-- ---- the whole

below : (types : List (List ℕ)) (parents : List ℕ) (d : DomainAst) (p : ProblemAst) → fault_below types parents d p ≡ None
    → HasDistinctNames (task_below types parents d p)
unfolding scope_of with_objects lifted_domain domain_in lifted_problem problem_in task_with task_behind task_below
below types parents d p e =
    let clear = all_clear types parents d p e in
    let named : map (λ (o : Object). o.name) (map (lifted_object types) d.constants ++ map (lifted_object types) p.objects) ≡ names_declared d.constants ++ names_declared p.objects =
    map-append (λ (o : Object). o.name) (map (lifted_object types) d.constants) (map (lifted_object types) p.objects)
    ∙ ap (λ (names : List (List ℕ)). names ++ map (λ (o : Object). o.name) (map (lifted_object types) p.objects)) (objects_named types d.constants)
    ∙ ap (λ (names : List (List ℕ)). names_declared d.constants ++ names) (objects_named types p.objects) in
    record {
      objects =
          subst (λ (names : List (List ℕ)). AreNew [] names) (sym named)
          (new-append [] (names_declared d.constants) (names_declared p.objects) (declared_new kinds.Name types [] d.constants clear.names.constants) (declared_new kinds.Name types (names_declared d.constants) p.objects clear.problem.objects));
      predicates = signatures_new types [] d.predicates clear.names.predicates;
      functions = signatures_new types [] d.functions clear.names.functions;
      schemas = actions_new (domain_scope types parents d p) [] d.actions clear.actions;
    }

pub distinct_names : (d : DomainAst) (p : ProblemAst) → AreFaultlessTexts d p → HasDistinctNames (lifted_task d p)
distinct_names d p clean = below (type_names d.types) (parents_of d.types) d p clean.behind_cycles
