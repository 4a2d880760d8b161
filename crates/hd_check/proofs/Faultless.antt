-- What two texts without a fault stand for is well formed.
use Rattle.hd_base.proofs.Lists.{AllByRecursion-append}
use Rattle.hd_base.proofs.Options.{IsSomeAnd-weaker, option_or_none, true-from_none}
use Rattle.std.proofs.Common.{◌≡◌, ℕ, ◌+◌, ◌≤◌, Bool, true, false, List, [], ◌∷◌, ◌++◌, map, length, None, refl, sym, ap, ◌∙◌, arith}
use Rattle.std.proofs.lemmas.List.{length-append, map-append, append-nil, length-map}
use Rattle.std.specs.Prelude.{slice_get, if◌then◌else◌}
use Rattle.hd_base.specs.Numbers.{in_range}
use Rattle.std.specs.List.{AllZip, AllByRecursion}
use Rattle.hd_terms.specs.declared.typed.ItemKind.TheVariants as kinds
use Rattle.hd_terms.specs.declared.tree.Atom.{Atom}
use Rattle.hd_terms.specs.declared.tree.Typed.{Typed}
use Rattle.hd_pddl.specs.declared.tree.DomainAst.{DomainAst}
use Rattle.hd_pddl.specs.declared.tree.ProblemAst.{ProblemAst}
use Rattle.hd_pddl.specs.declared.tree.Init.{Init}
use Rattle.hd_pddl.specs.declared.tree.Init.TheVariants as inits
use Rattle.hd_pddl.specs.declared.tree.Signature as trees_signature
use Rattle.hd_lifted.specs.declared.schema.Argument.{Argument}
use Rattle.hd_lifted.specs.declared.schema.Argument.TheVariants.{Parameter, Object}
use Rattle.hd_lifted.specs.declared.schema.AppliedSymbol.{AppliedSymbol}
use Rattle.hd_lifted.specs.declared.task.LiftedTask.{LiftedTask}
use Rattle.hd_lifted.specs.declared.task.Object as objects
use Rattle.hd_lifted.specs.declared.task.Signature.{Signature}
use Rattle.hd_lifted.specs.Objects.{IsOfType}
use Rattle.hd_check.specs.declared.fault.CheckFault.TheVariants.{InitOutOfRange}
use Rattle.hd_names.specs.declared.scope.Scope.{Scope}
use Rattle.hd_names.specs.declared.table.Table.{Table}
use Rattle.hd_base.specs.Options.{◌or◌}
use Rattle.hd_names.specs.Names.{type_number, types_of, names_declared, name_number}
use Rattle.hd_names.specs.Scope.{scope_of, with_objects, signature_table, type_names, parents_of}
use Rattle.hd_check.specs.Terms.{applied_fault, lifted_applied}
use Rattle.hd_check.specs.Effects.{is_metric}
use Rattle.hd_check.specs.Initial.{no_parameters, object_in, ground_form, ground_of, range_fault, second_value, fluent_of, with_first_value, value_fault, initial_fault, first_atoms, first_values}
use Rattle.hd_lifted.specs.Numbering.{form_key}
use Rattle.hd_check.specs.Whole.{lifted_object, lifted_signature, domain_in, lifted_domain, problem_in, lifted_problem, task_with, task_behind, task_below, lifted_task, fault_below, AreFaultlessTexts}
use Rattle.hd_lifted.specs.WellFormed.{IsArgumentOf, IsApplied, IsGround, IsFirstValue, IsWellFormed}
use Rattle.hd_check.proofs.Arguments.{Agrees, Lists, applied}
use Rattle.hd_check.proofs.Bodies.{condition, schemas}
use Rattle.hd_check.proofs.NoFaults.{domain_scope, problem_scope, all_clear}
use Rattle.hd_check.proofs.HaveTypes.{objects_within, signatures_within, schemas_within}
use Rattle.hd_names.proofs.Cycles.{types_long}

-- ---- what holds at first

ground_arguments : (t : LiftedTask) (as' : List Argument) (us : List ℕ) → AllZip (IsArgumentOf t []) as' us → AllZip (IsOfType t) (map object_in as') us
ground_arguments t [] [] h = tt
ground_arguments t [] (u ∷ us) h = absurd h
ground_arguments t (a ∷ as') [] h = absurd h
ground_arguments t (Parameter k ∷ as') (u ∷ us) (h, hs) = absurd h
ground_arguments t (Object o ∷ as') (u ∷ us) (h, hs) = (h, ground_arguments t as' us hs)

ground : (t : LiftedTask) (symbols : List Signature) (a : AppliedSymbol) → IsApplied t symbols [] a → IsGround t symbols (ground_form a)
ground t symbols a h =
    IsSomeAnd-weaker (λ (s : Signature). AllZip (IsArgumentOf t []) a.arguments s.parameters) (λ (s : Signature). AllZip (IsOfType t) (map object_in a.arguments) s.parameters)
    (slice_get symbols a.symbol) (λ s zipped. ground_arguments t a.arguments s.parameters zipped) h

stated : (t : LiftedTask) (s : Scope) → Agrees t s → (symbols : List Signature) (table : Table (List ℕ)) → Lists symbols table → (a : Atom)
    → applied_fault table s no_parameters a ≡ None → IsGround t symbols (ground_of table s a)
stated t s g symbols table lists a e = ground t symbols (lifted_applied table s no_parameters a) (applied t s no_parameters g refl symbols table lists a e)

-- a value may be left out
left_out : {X : Type 0} (P : X → Type 0) (b : Bool) (x : X) (xs : List X) → P x → AllByRecursion P xs
    → AllByRecursion P ((if b then [] else x ∷ []) ++ xs)
left_out P true x xs h hs = hs
left_out P false x xs h hs = (h, hs)

-- what holds at first is well formed
record AreInitial (t : LiftedTask) (s : Scope) (is : List Init) : Type 0 where
  atoms : AllByRecursion (IsGround t t.predicates) (first_atoms s is)
  values : AllByRecursion (IsFirstValue t) (first_values s is)

initial : (t : LiftedTask) (s : Scope) → Agrees t s → (given : List (List ℕ)) (is : List Init) → initial_fault s given is ≡ None → AreInitial t s is
initial t s g given [] e = record { atoms = tt; values = tt }
initial t s g given (inits.Atom a ∷ is) e =
    let parts = option_or_none (applied_fault s.predicates s no_parameters a) (initial_fault s given is) e in
    let rest = initial t s g given is parts.1 in
    record { atoms = (stated t s g t.predicates s.predicates g.predicates a parts.0, rest.atoms); values = rest.values }
initial t s g given (inits.NotAtom a ∷ is) e =
    let parts = option_or_none (applied_fault s.predicates s no_parameters a) (initial_fault s given is) e in
    let rest = initial t s g given is parts.1 in
    record { atoms = rest.atoms; values = rest.values }
initial t s g given (inits.Value v ∷ is) e =
    let parts = option_or_none (value_fault s given v) (initial_fault s (with_first_value s given v) is) e in
    let rest = initial t s g (with_first_value s given v) is parts.1 in
    let first = option_or_none (applied_fault s.functions s no_parameters v.fluent) (second_value given (form_key (fluent_of s v)) v.fluent or range_fault v) parts.0 in
    let later = option_or_none (second_value given (form_key (fluent_of s v)) v.fluent) (range_fault v) first.1 in
    let fits : in_range v.value ≡ true = true-from_none (in_range v.value) (InitOutOfRange v.at) later.1 in
    let there = stated t s g t.functions s.functions g.functions v.fluent first.0 in
    record {
      atoms = rest.atoms;
      values = left_out (IsFirstValue t) (is_metric s.metric (name_number s.functions.names v.fluent.name.name)) (record { fluent = fluent_of s v; value = v.value })
          (first_values s is) (there, fits) rest.values;
    }

-- ---- scopes

objects_same : (types : List (List ℕ)) (ts : List Typed) → types_of types ts ≡ map (λ (o : objects.Object). o.of) (map (lifted_object types) ts)
objects_same types [] = refl
objects_same types (t ∷ ts) = ap (λ (us : List ℕ). type_number types t.of ∷ us) (objects_same types ts)

signatures_same : (types : List (List ℕ)) (ss : List trees_signature.Signature)
    → map (λ (s : trees_signature.Signature). types_of types s.parameters) ss ≡ map (λ (s : Signature). s.parameters) (map (lifted_signature types) ss)
signatures_same types [] = refl
signatures_same types (s ∷ ss) = ap (λ (us : List (List ℕ)). types_of types s.parameters ∷ us) (signatures_same types ss)

lists : (types : List (List ℕ)) (ss : List trees_signature.Signature) → Lists (map (lifted_signature types) ss) (signature_table types ss)
lists types ss = record {
  long = length-map ss (λ (s : trees_signature.Signature). types_of types s.parameters) ∙ sym (length-map ss (λ (s : trees_signature.Signature). s.name.name));
  same = signatures_same types ss;
}

typed_long : (types : List (List ℕ)) (ts : List Typed) → length (types_of types ts) ≡ length (names_declared ts)
typed_long types ts = length-map ts (λ (t : Typed). type_number types t.of) ∙ sym (length-map ts (λ (t : Typed). t.name.name))

-- the domain's names are those of the task
pub domain_agrees : (types : List (List ℕ)) (parents : List ℕ) (d : DomainAst) (p : ProblemAst)
    → Agrees (task_below types parents d p) (scope_of types parents d p.metric)
unfolding scope_of with_objects lifted_domain domain_in lifted_problem problem_in task_with task_behind task_below
domain_agrees types parents d p = record {
  hierarchy = refl;
  own = map (lifted_object types) d.constants;
  more = map (lifted_object types) p.objects;
  objects = refl;
  long = typed_long types d.constants;
  types = objects_same types d.constants;
  predicates = lists types d.predicates;
  functions = lists types d.functions;
}

-- the problem's names are those of the task
pub problem_agrees : (types : List (List ℕ)) (parents : List ℕ) (d : DomainAst) (p : ProblemAst)
    → Agrees (task_below types parents d p) (with_objects (scope_of types parents d p.metric) p.objects)
unfolding scope_of with_objects lifted_domain domain_in lifted_problem problem_in task_with task_behind task_below
problem_agrees types parents d p = record {
  hierarchy = refl;
  own = map (lifted_object types) d.constants ++ map (lifted_object types) p.objects;
  more = [];
  objects = sym (append-nil (map (lifted_object types) d.constants ++ map (lifted_object types) p.objects));
  long =
      let before = typed_long types d.constants in
      let behind = typed_long types p.objects in
      omega (arith, before, behind, length-append (types_of types d.constants) (types_of types p.objects), length-append (names_declared d.constants) (names_declared p.objects));
  types =
      ap (λ (us : List ℕ). us ++ types_of types p.objects) (objects_same types d.constants)
      ∙ ap (λ (us : List ℕ). map (λ (o : objects.Object). o.of) (map (lifted_object types) d.constants) ++ us) (objects_same types p.objects)
      ∙ sym (map-append (λ (o : objects.Object). o.of) (map (lifted_object types) d.constants) (map (lifted_object types) p.objects));
  predicates = lists types d.predicates;
  functions = lists types d.functions;
}

-- ---- the whole

below : (types : List (List ℕ)) (parents : List ℕ) (d : DomainAst) (p : ProblemAst) → length types ≡ length parents + 1
    → fault_below types parents d p ≡ None → IsWellFormed (task_below types parents d p)
unfolding scope_of with_objects lifted_domain domain_in lifted_problem problem_in task_with task_behind task_below
below types parents d p long e =
    let clear = all_clear types parents d p e in
    let first = initial (task_below types parents d p) (problem_scope types parents d p) (problem_agrees types parents d p) [] p.init clear.problem.initial in
    record {
      objects =
          AllByRecursion-append (λ (o : objects.Object). o.of ≤ length parents) (map (lifted_object types) d.constants) (map (lifted_object types) p.objects)
          (objects_within (length parents) types long kinds.Name [] d.constants clear.names.constants)
          (objects_within (length parents) types long kinds.Name (names_declared d.constants) p.objects clear.problem.objects);
      predicates = signatures_within (length parents) types long [] d.predicates clear.names.predicates;
      functions = signatures_within (length parents) types long [] d.functions clear.names.functions;
      parameters = schemas_within (length parents) (domain_scope types parents d p) long [] d.actions clear.actions;
      schemas = schemas (task_below types parents d p) (domain_scope types parents d p) (domain_agrees types parents d p) [] d.actions clear.actions;
      goal = condition (task_below types parents d p) (problem_scope types parents d p) no_parameters (problem_agrees types parents d p) refl p.goal clear.problem.goal;
      atoms = first.atoms;
      values = first.values;
    }

pub well_formed : (d : DomainAst) (p : ProblemAst) → AreFaultlessTexts d p → IsWellFormed (lifted_task d p)
well_formed d p clean = below (type_names d.types) (parents_of d.types) d p (types_long d.types) clean.behind_cycles
