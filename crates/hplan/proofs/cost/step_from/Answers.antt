use Rattle.std.proofs.Common.{arith, sym, ap, ◌∙◌}
use Rattle.hd_task.specs.Plans.{node}
use Rattle.hd_task.specs.Stepping.{is_step_next}
use Rattle.hplan.proofs.Costs.{no_such}
use Rattle.hplan.proofs.cost.step_from.Goals as goal

pub returns-then-action-len-clause-step : goal.returns-then-action-len-clause-step
returns-then-action-len-clause-step c =
    no_such c.args.task.now (node c.args.state.now c.args.cost) c.args.action.0 (omega (arith, c.len.ensures, c.if-action-len.true))

pub returns-in-Next-clause-step : goal.returns-in-Next-clause-step
returns-in-Next-clause-step c =
    (sym c.in_ok-step.ensures.says.applicable ∙ ap is_step_next c.in-Next.is, c.in_ok-step.ensures.says.leads _ _ c.in-Next.is)

pub returns-in-Next-clause-of_task : goal.returns-in-Next-clause-of_task
returns-in-Next-clause-of_task c = c.in_ok-step.ensures.says.next_of_task _ _ c.in-Next.is
