-- The metric of texts without a fault.
use Rattle.hd_base.proofs.Options.{IsSomeAnd-weaker, option_or_none, true-from_none}
use Rattle.std.proofs.Common.{◌≡◌, ℕ, ◌<◌, ◌==◌, List, [], length, Option, Some, None, refl, sym, ap, ◌∙◌, subst, arith}
use Rattle.std.proofs.lemmas.Bool.{eqb-true}
use Rattle.std.proofs.lemmas.Option.{none-some}
use Rattle.std.specs.Prelude.{slice_get, slice_index_or, if◌then◌else◌}
use Rattle.std.specs.List.{position}
use Rattle.std.specs.Option.{IsSomeAnd, option_map}
use Rattle.std.specs.Str.{bytes_eq}
use Rattle.hd_forms.specs.declared.names.NameAt.{NameAt}
use Rattle.hd_terms.specs.declared.typed.ItemKind.TheVariants as kinds
use Rattle.hd_pddl.specs.declared.tree.DomainAst.{DomainAst}
use Rattle.hd_pddl.specs.declared.tree.ProblemAst.{ProblemAst}
use Rattle.hd_lifted.specs.declared.task.Signature.{Signature}
use Rattle.hd_names.specs.declared.fault.NameFault.TheVariants.{UnknownName}
use Rattle.hd_check.specs.declared.fault.CheckFault.TheVariants.{WrongArity}
use Rattle.hd_names.specs.declared.table.Table.{Table}
use Rattle.hd_base.specs.Options.{◌or◌}
use Rattle.hd_base.specs.Names.{is_named}
use Rattle.hd_names.specs.Names.{name_number, or_zero, unknown_in, spelled}
use Rattle.hd_names.specs.Scope.{scope_of, with_objects, metric_number, type_names, parents_of}
use Rattle.hd_check.specs.Terms.{parameters_of}
use Rattle.hd_check.specs.Initial.{no_parameters}
use Rattle.hd_metric.specs.Metric.{read_by_condition, nonzero_in, missing_in, bad_metric, misused_by_problem, misused_in_domain, misused_in_problem, misused_by_actions}
use Rattle.hd_check.specs.Fault.{name_fault}
use Rattle.hd_check.specs.MetricName.{metric_name_fault}
use Rattle.hd_check.specs.Whole.{domain_in, lifted_domain, problem_in, lifted_problem, task_with, task_behind, task_below, lifted_task, fault_below, AreFaultlessTexts}
use Rattle.hd_lifted.specs.MetricUse.{IsCostFunction}
use Rattle.hd_check.proofs.Arguments.{Lists, named-number, signature-there}
use Rattle.hd_check.proofs.Telling.{name_none}
use Rattle.hd_check.proofs.NoFaults.{domain_scope, problem_scope, all_clear}
use Rattle.hd_check.proofs.Faultless.{domain_agrees}
use Rattle.hd_check.proofs.MetricNames.{compares_not, actions_count, values_without}

-- the metric's function has no parameters
no_parameters_asked : (symbols : List Signature) (table : Table (List ℕ)) → Lists symbols table → (m : NameAt) (f : ℕ)
    → position (bytes_eq m.name) table.names ≡ Some f → metric_name_fault table (Some m) ≡ None
    → IsSomeAnd (slice_get symbols f) (λ (s : Signature). length s.parameters ≡ 0)
no_parameters_asked symbols table lists m f is e =
    let parts = option_or_none (name_fault (unknown_in kinds.Name table.names m)) (if length (parameters_of table m) == 0 then None else Some (WrongArity m.name m.at)) e in
    let named = true-from_none (is_named table.names m.name) (UnknownName (spelled kinds.Name m.name) m.at) (name_none (unknown_in kinds.Name table.names m) parts.0) in
    let none : length (parameters_of table m) ≡ 0 =
    eqb-true (length (parameters_of table m)) 0 (true-from_none (length (parameters_of table m) == 0) (WrongArity m.name m.at) parts.1) in
    let within = named-number table.names m.name named in
    let few : name_number table.names m.name < length table.items = omega (arith, within, lists.long) in
    let there : IsSomeAnd (slice_get symbols (name_number table.names m.name)) (λ (x : Signature). x.parameters ≡ parameters_of table m) =
    subst (λ (us : List (List ℕ)). name_number table.names m.name < length us → IsSomeAnd (slice_get symbols (name_number table.names m.name)) (λ (x : Signature). x.parameters ≡ slice_index_or us (name_number table.names m.name) []))
    (sym lists.same) (signature-there symbols (name_number table.names m.name)) few in
    let number : name_number table.names m.name ≡ f = ap or_zero is in
    subst (λ k. IsSomeAnd (slice_get symbols k) (λ (s : Signature). length s.parameters ≡ 0)) number
    (IsSomeAnd-weaker (λ (x : Signature). x.parameters ≡ parameters_of table m) (λ (s : Signature). length s.parameters ≡ 0)
    (slice_get symbols (name_number table.names m.name)) (λ x same. ap length same ∙ none) there)

place_none : (at : Option ℕ) → option_map bad_metric at ≡ None → at ≡ None
place_none None e = refl
place_none (Some at) e = absurd (none-some (bad_metric at) (sym e))

-- what the texts say of the metric's name
record NamesMetric (functions : Table (List ℕ)) (d : DomainAst) (p : ProblemAst) (f : ℕ) : Type 0 where
  name : NameAt
  is : position (bytes_eq name.name) functions.names ≡ Some f
  asked : metric_name_fault functions (Some name) ≡ None
  actions : misused_by_actions name.name d.actions ≡ None
  goal : read_by_condition name.name p.goal ≡ None

names_metric : (functions : Table (List ℕ)) (d : DomainAst) (p : ProblemAst) (o : Option NameAt) (f : ℕ) → metric_number functions.names o ≡ Some f
    → metric_name_fault functions o ≡ None → misused_in_domain o d ≡ None → misused_in_problem o p ≡ None → NamesMetric functions d p f
names_metric functions d p None f is asked domain problem = absurd (none-some f is)
names_metric functions d p (Some m) f is asked domain problem =
    let actions = place_none (misused_by_actions m.name d.actions) domain in
    let places = place_none (misused_by_problem m p) problem in
    let later = option_or_none (nonzero_in m.name p.init) (read_by_condition m.name p.goal or missing_in m p.init) places in
    let reads = option_or_none (read_by_condition m.name p.goal) (missing_in m p.init) later.1 in
    record { name = m; is = is; asked = asked; actions = actions; goal = reads.0 }

below : (types : List (List ℕ)) (parents : List ℕ) (d : DomainAst) (p : ProblemAst) (f : ℕ) → fault_below types parents d p ≡ None
    → (task_below types parents d p).metric ≡ Some f → IsCostFunction (task_below types parents d p) f
unfolding scope_of with_objects lifted_domain domain_in lifted_problem problem_in task_with task_behind task_below
below types parents d p f e metric =
    let clear = all_clear types parents d p e in
    let n =
    names_metric (domain_scope types parents d p).functions d p p.metric f metric clear.problem.metric_name clear.uses.in_domain clear.uses.in_problem in
    record {
      declared = no_parameters_asked (task_below types parents d p).functions (domain_scope types parents d p).functions (domain_agrees types parents d p).functions n.name f n.is n.asked;
      schemas = actions_count (domain_scope types parents d p) n.name.name f n.is metric [] d.actions clear.actions n.actions;
      goal = compares_not (problem_scope types parents d p) no_parameters n.name.name f n.is p.goal clear.problem.goal n.goal;
      values = values_without (problem_scope types parents d p) f metric p.init;
    }

pub cost_function : (d : DomainAst) (p : ProblemAst) (f : ℕ) → AreFaultlessTexts d p → (lifted_task d p).metric ≡ Some f → IsCostFunction (lifted_task d p) f
cost_function d p f clean metric = below (type_names d.types) (parents_of d.types) d p f clean.behind_cycles metric
