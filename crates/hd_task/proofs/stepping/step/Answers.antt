use Rattle.std.proofs.Common.{sym, ◌∙◌, refl, subst}
use Rattle.hd_task.specs.Plans.{node}
use Rattle.hd_task.specs.Stepping.{IsStepAnswer}
use Rattle.hd_task.proofs.Reaching.{step_at-from, step_at-says, reached_within, reached_beyond}
use Rattle.hd_task.proofs.stepping.step.Goals as goal

pub returns-in-No : goal.returns-in-No
returns-in-No c =
    let t = c.args.task.now in
    let r = node c.args.state.now c.args.cost in
    let n = c.args.action.0 in
    let answer = step_at-from t r n _ _ (sym c.in-No.is ∙ c.in_ok-apply.ensures.answer) refl in
    record { answer = answer; says = subst (IsStepAnswer t r n) (sym answer) (step_at-says t r n c.requires.of_task) }

pub returns-in-Departs : goal.returns-in-Departs
returns-in-Departs c =
    let t = c.args.task.now in
    let r = node c.args.state.now c.args.cost in
    let n = c.args.action.0 in
    let answer = step_at-from t r n _ _ (sym c.in-Departs.is ∙ c.in_ok-apply.ensures.answer) refl in
    record { answer = answer; says = subst (IsStepAnswer t r n) (sym answer) (step_at-says t r n c.requires.of_task) }

pub returns-in-Some : goal.returns-in-Some
returns-in-Some c =
    let t = c.args.task.now in
    let r = node c.args.state.now c.args.cost in
    let n = c.args.action.0 in
    let answer = step_at-from t r n _ _ (sym c.in-Next.is ∙ c.in_ok-apply.ensures.answer) (reached_within _ _ _ _ c.in-Some.ensures.0 c.in-Some.ensures.1) in
    record { answer = answer; says = subst (IsStepAnswer t r n) (sym answer) (step_at-says t r n c.requires.of_task) }

pub returns-in-None : goal.returns-in-None
returns-in-None c =
    let t = c.args.task.now in
    let r = node c.args.state.now c.args.cost in
    let n = c.args.action.0 in
    let answer = step_at-from t r n _ _ (sym c.in-Next.is ∙ c.in_ok-apply.ensures.answer) (reached_beyond _ _ _ c.in-None.ensures) in
    record { answer = answer; says = subst (IsStepAnswer t r n) (sym answer) (step_at-says t r n c.requires.of_task) }
