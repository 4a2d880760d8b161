-- What the parts of a check tell, as answers of the whole.
use Rattle.std.proofs.Common.{◌≡◌, ℕ, List, [], Option, None, Result, Ok, Err, refl, sym, ap, ◌∙◌, subst}
use Rattle.hd_pddl.specs.declared.tree.DomainAst.{DomainAst}
use Rattle.hd_pddl.specs.declared.tree.ProblemAst.{ProblemAst}
use Rattle.hd_lifted.specs.declared.task.LiftedTask.{LiftedTask}
use Rattle.hd_names.specs.Scope.{type_names, scope_fault, scope_of}
use Rattle.hd_base.specs.Options.{◌or◌}
use Rattle.hd_names.specs.declared.scope.Scope.{Scope}
use Rattle.hd_check.specs.declared.checking.TypesPart.{TypesPart}
use Rattle.hd_check.specs.declared.checking.DomainPart.{DomainPart}
use Rattle.hd_check.specs.declared.checking.CheckedParts.{CheckedParts}
use Rattle.hd_check.specs.declared.fault.CheckError.{CheckError}
use Rattle.hd_check.specs.declared.fault.CheckError.TheVariants.{In, NoMemory}
use Rattle.hd_check.specs.declared.fault.Source.TheVariants.{Domain, Problem}
use Rattle.hd_check.specs.Fault.{TellsOf, name_fault}
use Rattle.hd_check.specs.Schemas.{actions_fault}
use Rattle.hd_check.specs.Whole.{in_text, mismatch, listed_fault, Answers, before_cycles, on_cycle, behind_cycles, fault_before_cycles, problem_fault, metric_fault, fault_below, fault_behind_cycles, domain_in, lifted_domain, parts_in, task_of, task_behind, task_below, lifted_task, ChecksUses, AreListedTypes, TellsTypes, by_name, by_cycle, TellsCycleIn, cycle, no_memory}

-- ---- the first of two faults

pub told_first : (e : CheckError) (a b : Option CheckError) → TellsOf e a → TellsOf e (a or b)
told_first (In source f) a b first = rw first refl
told_first NoMemory a b u = tt

pub told_later : (e : CheckError) (a b : Option CheckError) → a ≡ None → TellsOf e b → TellsOf e (a or b)
told_later (In source f) a b none later = rw none later
told_later NoMemory a b none u = tt

-- ---- faults up to the cycles of types

tells_before : (d : DomainAst) (p : ProblemAst) (e : CheckError) → TellsOf e (fault_before_cycles d p) → Answers d p (Err e)
tells_before d p (In source f) first = before_cycles (In source f) first
tells_before d p NoMemory u = tt

tells_cycle : (d : DomainAst) (p : ProblemAst) (e : CheckError) → fault_before_cycles d p ≡ None → TellsCycleIn d.types e → Answers d p (Err e)
tells_cycle d p told none (cycle f tells) = on_cycle f none tells
tells_cycle d p told none no_memory = tt

none_before : (d : DomainAst) (p : ProblemAst) → in_text Problem (mismatch d p) ≡ None → in_text Domain (listed_fault d.types) ≡ None
    → fault_before_cycles d p ≡ None
unfolding fault_before_cycles
none_before d p same listed = ap (λ (o : Option CheckError). o or in_text Domain (listed_fault d.types)) same ∙ listed

-- the problem does not belong to the domain
pub stops_at_name : (d : DomainAst) (p : ProblemAst) (e : CheckError) → TellsOf e (in_text Problem (mismatch d p)) → Answers d p (Err e)
unfolding fault_before_cycles
stops_at_name d p e first = tells_before d p e (told_first e (in_text Problem (mismatch d p)) (in_text Domain (listed_fault d.types)) first)

-- a type is listed twice, or lies on a cycle
pub stops_at_types : (d : DomainAst) (p : ProblemAst) (e : CheckError) → in_text Problem (mismatch d p) ≡ None → TellsTypes d.types e → Answers d p (Err e)
unfolding fault_before_cycles
stops_at_types d p told same (by_name e first) =
    tells_before d p e (told_later e (in_text Problem (mismatch d p)) (in_text Domain (listed_fault d.types)) same first)
stops_at_types d p told same (by_cycle e listed tells) = tells_cycle d p e (none_before d p same listed) tells

-- ---- faults after the cycles of types

-- the four parts of the first fault after them, of which the last is that of the metric
abbrev of_scope : List (List ℕ) → DomainAst → Option CheckError
of_scope types d = in_text Domain (name_fault (scope_fault types d))

abbrev of_actions : Scope → DomainAst → Option CheckError
of_actions s d = in_text Domain (actions_fault s [] d.actions)

abbrev of_problem : Scope → ProblemAst → Option CheckError
of_problem s p = in_text Problem (problem_fault s p)

-- the scope of a domain whose types are these
abbrev scope_by : TypesPart → DomainAst → ProblemAst → Scope
scope_by types d p = scope_of types.names types.hierarchy d p.metric

module _ (d : DomainAst) (p : ProblemAst) (types : TypesPart) where
  tells_scope : (e : CheckError) → TellsOf e (of_scope types.names d) → TellsOf e (fault_below types.names types.hierarchy d p)
  unfolding fault_below
  tells_scope e first =
      told_first e (of_scope types.names d) (of_actions (scope_by types d p) d or of_problem (scope_by types d p) p or metric_fault d p) first

  tells_actions : (e : CheckError) → of_scope types.names d ≡ None → TellsOf e (of_actions (scope_by types d p) d)
      → TellsOf e (fault_below types.names types.hierarchy d p)
  unfolding fault_below
  tells_actions e scope first =
      told_later e (of_scope types.names d) (of_actions (scope_by types d p) d or of_problem (scope_by types d p) p or metric_fault d p) scope
      (told_first e (of_actions (scope_by types d p) d) (of_problem (scope_by types d p) p or metric_fault d p) first)

  tells_problem : (e : CheckError) → of_scope types.names d ≡ None → of_actions (scope_by types d p) d ≡ None
      → TellsOf e (of_problem (scope_by types d p) p) → TellsOf e (fault_below types.names types.hierarchy d p)
  unfolding fault_below
  tells_problem e scope actions first =
      told_later e (of_scope types.names d) (of_actions (scope_by types d p) d or of_problem (scope_by types d p) p or metric_fault d p) scope
      (told_later e (of_actions (scope_by types d p) d) (of_problem (scope_by types d p) p or metric_fault d p) actions
      (told_first e (of_problem (scope_by types d p) p) (metric_fault d p) first))

  tells_uses : (e : CheckError) → of_scope types.names d ≡ None → of_actions (scope_by types d p) d ≡ None
      → of_problem (scope_by types d p) p ≡ None → TellsOf e (metric_fault d p) → TellsOf e (fault_below types.names types.hierarchy d p)
  unfolding fault_below
  tells_uses e scope actions problem first =
      told_later e (of_scope types.names d) (of_actions (scope_by types d p) d or of_problem (scope_by types d p) p or metric_fault d p) scope
      (told_later e (of_actions (scope_by types d p) d) (of_problem (scope_by types d p) p or metric_fault d p) actions
      (told_later e (of_problem (scope_by types d p) p) (metric_fault d p) problem first))

  none_below : of_scope types.names d ≡ None → of_actions (scope_by types d p) d ≡ None → of_problem (scope_by types d p) p ≡ None
      → metric_fault d p ≡ None → fault_below types.names types.hierarchy d p ≡ None
  unfolding fault_below
  none_below scope actions problem uses = rw (scope, actions, problem) uses

-- what a check knows of the types when it goes on
module _ (d : DomainAst) (p : ProblemAst) (types : TypesPart) (same : in_text Problem (mismatch d p) ≡ None) (k : AreListedTypes types d.types) where
  before : fault_before_cycles d p ≡ None
  before = none_before d p same k.faultless

  same_fault : fault_below types.names types.hierarchy d p ≡ fault_behind_cycles d p
  same_fault = ap (λ ts. fault_below ts types.hierarchy d p) k.names ∙ ap (λ ps. fault_below (type_names d.types) ps d p) k.hierarchy

  same_task : task_below types.names types.hierarchy d p ≡ lifted_task d p
  same_task = ap (λ ts. task_below ts types.hierarchy d p) k.names ∙ ap (λ ps. task_below (type_names d.types) ps d p) k.hierarchy

  -- the first fault after these types is reported
  stops_below : (e : CheckError) → TellsOf e (fault_below types.names types.hierarchy d p) → Answers d p (Err e)
  stops_below (In source f) first = behind_cycles (In source f) before k.acyclic (sym same_fault ∙ first)
  stops_below NoMemory u = tt

  -- none is there, and this is the task
  stands_below : (task : LiftedTask) → fault_below types.names types.hierarchy d p ≡ None
      → task ≡ task_below types.names types.hierarchy d p → Answers d p (Ok task)
  stands_below task none is =
      (record { before_cycles = before; acyclic = k.acyclic; behind_cycles = sym same_fault ∙ none }, is ∙ same_task)

  -- a fault of the domain's names
  pub stops_at_scope : (e : CheckError) → TellsOf e (of_scope types.names d) → Answers d p (Err e)
  stops_at_scope e first = stops_below e (tells_scope d p types e first)

  module _ (s : Scope) (scope : of_scope types.names d ≡ None) (is_scope : s ≡ scope_by types d p) where
    -- a fault of its actions
    pub stops_at_actions : (e : CheckError) → TellsOf e (of_actions s d) → Answers d p (Err e)
    stops_at_actions e first =
        stops_below e (tells_actions d p types e scope (subst (λ (s : Scope). TellsOf e (of_actions s d)) is_scope first))

    module _ (first : DomainPart) (actions : of_actions s d ≡ None) (is_first : first ≡ domain_in s d) where
      no_action : of_actions (scope_by types d p) d ≡ None
      no_action = subst (λ (s : Scope). of_actions s d ≡ None) is_scope actions

      same_scope : first.scope ≡ scope_by types d p
      unfolding domain_in
      same_scope = ap (λ (f : DomainPart). f.scope) is_first ∙ is_scope

      same_first : first ≡ lifted_domain types.names types.hierarchy d p.metric
      unfolding lifted_domain
      same_first = is_first ∙ ap (λ (s : Scope). domain_in s d) is_scope

      -- a fault of the problem
      pub stops_at_problem : (e : CheckError) → TellsOf e (of_problem first.scope p) → Answers d p (Err e)
      stops_at_problem e told =
          stops_below e (tells_problem d p types e scope no_action (subst (λ (s : Scope). TellsOf e (of_problem s p)) same_scope told))

      module _ (parts : CheckedParts) (problem : of_problem first.scope p ≡ None) (is_parts : parts ≡ parts_in first p) where
        no_problem : of_problem (scope_by types d p) p ≡ None
        no_problem = subst (λ (s : Scope). of_problem s p ≡ None) same_scope problem

        same_parts : task_of d p parts ≡ task_below types.names types.hierarchy d p
        unfolding task_below task_behind
        same_parts = ap (task_of d p) (is_parts ∙ ap (λ (f : DomainPart). parts_in f p) same_first)

        -- the task, or a misuse of the metric's function
        pub answers_uses : (result : Result LiftedTask CheckError) → ChecksUses result parts d p → Answers d p result
        answers_uses (Ok task) (uses, is) = stands_below task (none_below d p types scope no_action no_problem uses) (is ∙ same_parts)
        answers_uses (Err (In source f)) told = stops_below (In source f) (tells_uses d p types (In source f) scope no_action no_problem told)
        answers_uses (Err NoMemory) u = tt
