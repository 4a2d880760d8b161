use Rattle.std.proofs.Common.{◌∙◌, ℕ, ap, Some}
use Rattle.hd_task.specs.Plans.{node}
use Rattle.hd_task.specs.Expansions.{goal_cost}
use Rattle.hd_entries.proofs.settling.goal_cost.Goals as goal

pub returns : goal.returns
returns c =
    let e = c.args.expansion.now in
    c.cost_at_goal.ensures e.task e.state (c.goal.ensures ∙ e.is_goal)
    ∙ ap (λ (n : ℕ). goal_cost e.task (Some (node e.state n))) c.cost.ensures
