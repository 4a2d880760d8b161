use Rattle.std.proofs.Common.{◌≡◌, ◌∙◌, ◌<◌, ℕ, List, length, refl, sym, ap, ap₂, subst, arith, Some}
use Rattle.std.specs.List.{AllPairs}
use Rattle.std.proofs.lemmas.List.{length-map}
use Rattle.hd_task.specs.Plans.{node}
use Rattle.hd_task.specs.Expansions.{goal_cost}
use Rattle.hd_node.specs.Children.{ChildView}
use Rattle.hd_entries.specs.Growing.{actions_of, better, with_kids}
use Rattle.hd_entries.proofs.Posting.{actions_at, children_rise}
use Rattle.hd_entries.proofs.content.EntriesContent.add.Goals as goal

pub post_actions-requires-clause-kid_room : goal.post_actions-requires-clause-kid_room
post_actions-requires-clause-kid_room c =
    let e = c.args.outline.now in
    let named : c.actions.result.now ≡ actions_of e.children = c.actions.ensures ∙ actions_at e.task e (Some (node e.state e.cost)) refl refl in
    omega (arith, c.requires.successors, ap length named, length-map e.children (λ (c : ChildView). c.action))

pub post_actions-requires-clause-rises : goal.post_actions-requires-clause-rises
post_actions-requires-clause-rises c =
    let e = c.args.outline.now in
    let named : c.actions.result.now ≡ actions_of e.children = c.actions.ensures ∙ actions_at e.task e (Some (node e.state e.cost)) refl refl in
    subst (λ (acts : List ℕ). AllPairs (λ (a b : ℕ). a < b) acts) (sym named) (children_rise e)

pub returns-clause-kids : goal.returns-clause-kids
returns-clause-kids c =
    let e = c.args.outline.now in
    let named : c.actions.result.now ≡ actions_of e.children = c.actions.ensures ∙ actions_at e.task e (Some (node e.state e.cost)) refl refl in
    c.post_actions.ensures ∙ ap (with_kids c.args.self.now.kids) named

pub returns-clause-best : goal.returns-clause-best
returns-clause-best c =
    let e = c.args.outline.now in
    let s = c.args.self.now in
    let cost = c.cost_at_goal-cost.ensures e.task e.state (c.goal.ensures ∙ e.is_goal) ∙ ap (λ (n : ℕ). goal_cost e.task (Some (node e.state n))) c.cost.ensures in
    c.better-expanded.ensures ∙ ap₂ (better s.expanded.best) c.len-entry.ensures.len cost
