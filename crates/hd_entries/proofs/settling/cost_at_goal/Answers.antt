use Rattle.std.proofs.Common.{◌∙◌, cond, sym, ap, Some, None}
use Rattle.hd_task.specs.Applying.{says_yes}
use Rattle.hd_task.proofs.Deciding.{goal-is}
use Rattle.hd_task.specs.Plans.{node}
use Rattle.hd_entries.proofs.settling.cost_at_goal.Goals as goal

pub returns-in-Yes : goal.returns-in-Yes
returns-in-Yes c = λ t s is.
    sym (goal-is t (node s c.args.cost) ∙ ap (λ g. cond (says_yes g) (Some c.args.cost) None) (sym is ∙ c.in-Yes.is))

pub returns-in-No : goal.returns-in-No
returns-in-No c = λ t s is.
    sym (goal-is t (node s c.args.cost) ∙ ap (λ g. cond (says_yes g) (Some c.args.cost) None) (sym is ∙ c.in-No.is))

pub returns-in-Departs : goal.returns-in-Departs
returns-in-Departs c = λ t s is.
    sym (goal-is t (node s c.args.cost) ∙ ap (λ g. cond (says_yes g) (Some c.args.cost) None) (sym is ∙ c.in-Departs.is))
