use Rattle.std.proofs.Common.{subst}
use Rattle.hd_lifted.specs.declared.instance.Instance.{Instance}
use Rattle.hd_judge.specs.Tables.{reached_in}
use Rattle.hd_plan.specs.Naming.{HasNamesOf}
use Rattle.hd_plan.specs.Tables.{FindsNamed}
use Rattle.hd_explain.proofs.Traced.{step_missing, step_failed}
use Rattle.hd_explain.proofs.tracing.trace_next.Goals as goal

pub returns-in_default-clause-fails : goal.returns-in_default-clause-fails
returns-in_default-clause-fails c =
    let s = c.args.step.now in
    step_missing c.args.lookups.now (reached_in c.args.place.now) c.args.number s
    (subst (λ t. (i : Instance) → HasNamesOf t s i → ⊥) c.requires.named
    (subst (λ o. FindsNamed c.args.names.now s o) c.in_default.is c.in_ok-instance.ensures))

pub returns-clause-fails : goal.returns-clause-fails
returns-clause-fails c =
    let s = c.args.step.now in
    let i = c.in-Some.instance in
    step_failed c.args.lookups.now (reached_in c.args.place.now) c.args.number s i c.trace_instance-lines.result c.requires.distinct
    (subst (λ t. HasNamesOf t s i) c.requires.named (subst (λ o. FindsNamed c.args.names.now s o) c.in-Some.is c.in_ok-instance.ensures))
    c.trace_instance-lines.ensures.fails
