-- Where no fault is reported after the cycles of types, none is in any part.
use Rattle.std.proofs.Common.{◌≡◌, ℕ, List, [], None}
use Rattle.hd_base.proofs.Options.{option_or_none}
use Rattle.hd_base.specs.Options.{◌or◌}
use Rattle.hd_terms.specs.declared.typed.ItemKind.TheVariants as kinds
use Rattle.hd_pddl.specs.declared.tree.DomainAst.{DomainAst}
use Rattle.hd_pddl.specs.declared.tree.ProblemAst.{ProblemAst}
use Rattle.hd_metric.specs.Metric.{misused_in_domain, misused_in_problem}
use Rattle.hd_names.specs.declared.scope.Scope.{Scope}
use Rattle.hd_names.specs.Names.{declared_fault}
use Rattle.hd_names.specs.Scope.{scope_of, with_objects, scope_fault, signatures_fault}
use Rattle.hd_check.specs.declared.fault.Source.TheVariants.{Domain, Problem}
use Rattle.hd_check.specs.Fault.{name_fault, metric_use_fault}
use Rattle.hd_check.specs.Conditions.{condition_fault}
use Rattle.hd_check.specs.Schemas.{actions_fault}
use Rattle.hd_check.specs.Initial.{no_parameters, initial_fault}
use Rattle.hd_check.specs.MetricName.{metric_name_fault}
use Rattle.hd_check.specs.Whole.{in_text, fault_in_problem, problem_fault, metric_fault, fault_below}
use Rattle.hd_check.proofs.Telling.{text_none, name_none, use_none}

-- the scopes of a domain and of its problem, by the names and the parents of the types
abbrev pub domain_scope : List (List ℕ) → List ℕ → DomainAst → ProblemAst → Scope
domain_scope types parents d p = scope_of types parents d p.metric

abbrev pub problem_scope : List (List ℕ) → List ℕ → DomainAst → ProblemAst → Scope
problem_scope types parents d p = with_objects (scope_of types parents d p.metric) p.objects

-- no fault is in what a domain declares
pub record HasNoNameFault (types : List (List ℕ)) (d : DomainAst) : Type 0 where
  pub constants : declared_fault kinds.Name types [] d.constants ≡ None
  pub predicates : signatures_fault types [] d.predicates ≡ None
  pub functions : signatures_fault types [] d.functions ≡ None

-- no fault is in a problem, in these scopes
pub record HasNoProblemFault (s with_own : Scope) (p : ProblemAst) : Type 0 where
  pub objects : declared_fault kinds.Name s.types s.objects.names p.objects ≡ None
  pub initial : initial_fault with_own [] p.init ≡ None
  pub goal : condition_fault with_own no_parameters p.goal ≡ None
  pub metric_name : metric_name_fault with_own.functions p.metric ≡ None

-- the metric's function is not misused
pub record HasNoMisuse (d : DomainAst) (p : ProblemAst) : Type 0 where
  pub in_domain : misused_in_domain p.metric d ≡ None
  pub in_problem : misused_in_problem p.metric p ≡ None

-- no fault is after the cycles of types
pub record HasNoFaultBelow (types : List (List ℕ)) (parents : List ℕ) (d : DomainAst) (p : ProblemAst) : Type 0 where
  pub names : HasNoNameFault types d
  pub actions : actions_fault (domain_scope types parents d p) [] d.actions ≡ None
  pub problem : HasNoProblemFault (domain_scope types parents d p) (problem_scope types parents d p) p
  pub uses : HasNoMisuse d p

names_clear : (types : List (List ℕ)) (d : DomainAst) → scope_fault types d ≡ None → HasNoNameFault types d
unfolding scope_fault
names_clear types d e =
    let declared = option_or_none (declared_fault kinds.Name types [] d.constants) (signatures_fault types [] d.predicates or signatures_fault types [] d.functions) e in
    let signatures = option_or_none (signatures_fault types [] d.predicates) (signatures_fault types [] d.functions) declared.1 in
    record { constants = declared.0; predicates = signatures.0; functions = signatures.1 }

problem_clear : (s : Scope) (p : ProblemAst) → problem_fault s p ≡ None → HasNoProblemFault s (with_objects s p.objects) p
unfolding problem_fault fault_in_problem
problem_clear s p e =
    let outer = option_or_none (name_fault (declared_fault kinds.Name s.types s.objects.names p.objects)) (fault_in_problem (with_objects s p.objects) p) e in
    let inner =
    option_or_none (initial_fault (with_objects s p.objects) [] p.init)
    (condition_fault (with_objects s p.objects) no_parameters p.goal or metric_name_fault (with_objects s p.objects).functions p.metric) outer.1 in
    let last = option_or_none (condition_fault (with_objects s p.objects) no_parameters p.goal) (metric_name_fault (with_objects s p.objects).functions p.metric) inner.1 in
    record {
      objects = name_none (declared_fault kinds.Name s.types s.objects.names p.objects) outer.0;
      initial = inner.0;
      goal = last.0;
      metric_name = last.1;
    }

uses_clear : (d : DomainAst) (p : ProblemAst) → metric_fault d p ≡ None → HasNoMisuse d p
unfolding metric_fault
uses_clear d p e =
    let parts =
    option_or_none (in_text Domain (metric_use_fault (misused_in_domain p.metric d))) (in_text Problem (metric_use_fault (misused_in_problem p.metric p))) e in
    record {
      in_domain = use_none (misused_in_domain p.metric d) (text_none Domain (metric_use_fault (misused_in_domain p.metric d)) parts.0);
      in_problem = use_none (misused_in_problem p.metric p) (text_none Problem (metric_use_fault (misused_in_problem p.metric p)) parts.1);
    }

pub all_clear : (types : List (List ℕ)) (parents : List ℕ) (d : DomainAst) (p : ProblemAst) → fault_below types parents d p ≡ None
    → HasNoFaultBelow types parents d p
unfolding fault_below
all_clear types parents d p e =
    let names =
    option_or_none (in_text Domain (name_fault (scope_fault types d)))
    (in_text Domain (actions_fault (domain_scope types parents d p) [] d.actions) or in_text Problem (problem_fault (domain_scope types parents d p) p) or metric_fault d p) e in
    let actions =
    option_or_none (in_text Domain (actions_fault (domain_scope types parents d p) [] d.actions))
    (in_text Problem (problem_fault (domain_scope types parents d p) p) or metric_fault d p) names.1 in
    let problem = option_or_none (in_text Problem (problem_fault (domain_scope types parents d p) p)) (metric_fault d p) actions.1 in
    record {
      names = names_clear types d (name_none (scope_fault types d) (text_none Domain (name_fault (scope_fault types d)) names.0));
      actions = text_none Domain (actions_fault (domain_scope types parents d p) [] d.actions) actions.0;
      problem = problem_clear (domain_scope types parents d p) p (text_none Problem (problem_fault (domain_scope types parents d p) p) problem.0);
      uses = uses_clear d p problem.1;
    }
