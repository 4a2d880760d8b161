use Rattle.std.proofs.Common.{subst}
use Rattle.hd_plan.specs.Naming.{HasNamesOf}
use Rattle.hd_plan.specs.Tables.{FindsNamed}
use Rattle.hd_judge.specs.Tables.{reached_in}
use Rattle.hd_plan.proofs.Stepping.{judged_named}
use Rattle.hd_plan.proofs.validating.judge_named.Goals as goal

pub returns-clause-tells : goal.returns-clause-tells
returns-clause-tells c =
    judged_named c.args.lookups.now (reached_in c.args.place.now) c.args.number c.args.step.now c.in-Some.instance c.judge_step-judged.result c.requires.distinct
    (subst (λ t. HasNamesOf t c.args.step.now c.in-Some.instance) c.requires.same
    (subst (λ o. FindsNamed c.args.names.now c.args.step.now o) c.in-Some.is c.in_ok-instance.ensures))
    c.judge_step-judged.ensures.tells
