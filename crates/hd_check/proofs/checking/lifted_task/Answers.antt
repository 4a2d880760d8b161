use Rattle.std.proofs.Common.{List, subst}
use Rattle.std.proofs.lemmas.Result.{err_from_is_err_and}
use Rattle.hd_terms.specs.declared.tree.Typed.{Typed}
use Rattle.hd_check.specs.Whole.{AreListedTypes, TellsTypes}
use Rattle.hd_check.proofs.Standing.{stops_at_name, stops_at_types, stops_at_scope, stops_at_actions, stops_at_problem, answers_uses}
use Rattle.hd_check.proofs.checking.lifted_task.Goals as goal

pub returns-in_err-check_domain_name : goal.returns-in_err-check_domain_name
returns-in_err-check_domain_name c =
    let q = err_from_is_err_and c.from_residual.result c.from_residual.ensures.1 in
    rw (q.1, q.2) (stops_at_name c.args.domain.now c.args.problem.now _ c.in_err-check_domain_name.ensures)

pub returns-in_err-types : goal.returns-in_err-types
returns-in_err-types c =
    let q = err_from_is_err_and c.from_residual-in_err-types.result c.from_residual-in_err-types.ensures.1 in
    rw (q.1, q.2) (stops_at_types c.args.domain.now c.args.problem.now _ c.in_ok-check_domain_name.ensures.0
    (subst (λ (ts : List Typed). TellsTypes ts c.in_err-types.field-0.0) c.as_slice.ensures c.in_err-types.ensures))

pub returns-in_err-scope : goal.returns-in_err-scope
returns-in_err-scope c =
    let q = err_from_is_err_and c.from_residual-in_err-scope.result c.from_residual-in_err-scope.ensures.1 in
    rw (q.1, q.2)
    (stops_at_scope c.args.domain.now c.args.problem.now c.in_ok-types.types c.in_ok-check_domain_name.ensures.0
    (subst (λ (ts : List Typed). AreListedTypes c.in_ok-types.types ts) c.as_slice.ensures c.in_ok-types.ensures)
    _ c.in_err-scope.ensures)

pub returns-in_err-first : goal.returns-in_err-first
returns-in_err-first c =
    let q = err_from_is_err_and c.from_residual-in_err-first.result c.from_residual-in_err-first.ensures.1 in
    rw (q.1, q.2)
    (stops_at_actions c.args.domain.now c.args.problem.now c.in_ok-types.types c.in_ok-check_domain_name.ensures.0
    (subst (λ (ts : List Typed). AreListedTypes c.in_ok-types.types ts) c.as_slice.ensures c.in_ok-types.ensures)
    c.in_ok-scope.scope c.in_ok-scope.ensures.0 c.in_ok-scope.ensures.1 _ c.in_err-first.ensures)

pub returns-in_err-parts : goal.returns-in_err-parts
returns-in_err-parts c =
    let q = err_from_is_err_and c.from_residual-in_err-parts.result c.from_residual-in_err-parts.ensures.1 in
    rw (q.1, q.2)
    (stops_at_problem c.args.domain.now c.args.problem.now c.in_ok-types.types c.in_ok-check_domain_name.ensures.0
    (subst (λ (ts : List Typed). AreListedTypes c.in_ok-types.types ts) c.as_slice.ensures c.in_ok-types.ensures)
    c.in_ok-scope.scope c.in_ok-scope.ensures.0 c.in_ok-scope.ensures.1
    c.in_ok-first.first c.in_ok-first.ensures.0 c.in_ok-first.ensures.1 _ c.in_err-parts.ensures)

pub returns : goal.returns
returns c =
    answers_uses c.args.domain.now c.args.problem.now c.in_ok-types.types c.in_ok-check_domain_name.ensures.0
    (subst (λ (ts : List Typed). AreListedTypes c.in_ok-types.types ts) c.as_slice.ensures c.in_ok-types.ensures)
    c.in_ok-scope.scope c.in_ok-scope.ensures.0 c.in_ok-scope.ensures.1
    c.in_ok-first.first c.in_ok-first.ensures.0 c.in_ok-first.ensures.1
    c.in_ok-parts.parts c.in_ok-parts.ensures.0 c.in_ok-parts.ensures.1 c.task_by_uses.result c.task_by_uses.ensures
