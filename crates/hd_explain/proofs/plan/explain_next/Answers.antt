use Rattle.std.proofs.Common.{subst, rules}
use Rattle.hd_lifted.specs.declared.instance.Instance.{Instance}
use Rattle.hd_judge.specs.Tables.{reached_in}
use Rattle.hd_plan.specs.Naming.{HasNamesOf}
use Rattle.hd_plan.specs.Tables.{FindsNamed}
use Rattle.hd_explain.proofs.Named.{step_unnamed, step_untold}
use Rattle.hd_explain.proofs.plan.explain_next.Goals as goal

pub returns-in_default-clause-halts : goal.returns-in_default-clause-halts
returns-in_default-clause-halts c =
    let s = c.args.step.now in
    let r = reached_in c.args.place.now in
    step_unnamed c.args.lookups.now r r c.args.number s
    (subst (λ t. (i : Instance) → HasNamesOf t s i → ⊥) c.requires.named
    (subst (λ o. FindsNamed c.args.names.now s o) c.in_default.is c.in_ok-instance.ensures))

pub returns-in-Err-At-At-clause-halts : goal.returns-in-Err-At-At-clause-halts
returns-in-Err-At-At-clause-halts c =
    let s = c.args.step.now in
    let i = c.in-Some.instance in
    step_untold c.args.lookups.now (reached_in c.args.place.now) (reached_in c.explain_step.new.place) c.args.number s i c.in-Err-At-At.fault c.requires.distinct
    (subst (λ t. HasNamesOf t s i) c.requires.named (subst (λ o. FindsNamed c.args.names.now s o) c.in-Some.is c.in_ok-instance.ensures))
    (search rules)
