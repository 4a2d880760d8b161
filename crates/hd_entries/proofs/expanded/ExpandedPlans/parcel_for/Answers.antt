use Rattle.std.proofs.Common.{◌≡◌, ◌≢◌, ◌∙◌, ℕ, ◌<◌, true, true≢false, Some, length, get_or, sym, ap, ap₂, subst}
use Rattle.hd_task.specs.declared.state.State.{State}
use Rattle.hd_task.specs.declared.plan.Kid.{Kid}
use Rattle.hd_task.specs.declared.plan.TheConstants.{ROOT_PARENT}
use Rattle.hd_task.specs.Plans.{IsStateOf, node, step_by}
use Rattle.hd_task.specs.Expansions.{is_applicable}
use Rattle.hd_task.specs.Stepping.{step_at}
use Rattle.hd_task.proofs.Reaching.{step_at-says}
use Rattle.hd_node.proofs.Leading.{applies_by_next, led_next, not_by_no, not_by_departure}
use Rattle.hd_entries.specs.declared.entry.ExpandedPlan.{ExpandedPlan}
use Rattle.hd_entries.specs.declared.expanded.ExpandedPlans.{ExpandedPlans}
use Rattle.hd_entries.specs.Settling.{is_posted, knows_parent, node_of}
use Rattle.hd_entries.specs.Holding.{node_at, unmarked, IsExpanded}
use Rattle.hd_entries.proofs.Held.{root_kid, entry_kid, root_leads, entry_state, entry_posted, entry_leads, applicable_within}
use Rattle.hd_entries.proofs.expanded.ExpandedPlans.parcel_for.Goals as goal

pub returns-then-kid-eq-ROOT_PARENT-clause-leads : goal.returns-then-kid-eq-ROOT_PARENT-clause-leads
returns-then-kid-eq-ROOT_PARENT-clause-leads c =
    let x = c.args.self.now in
    let e = c.in_ok-parcel.ensures in
    record {
      task = e.task;
      leads = ap (node_of (unmarked x)) e.kid
          ∙ (root_leads x c.requires.held c.args.kid (root_kid x c.requires.held c.args.kid c.requires.known c.if-kid-eq-ROOT_PARENT.true)
          ∙ ap₂ (λ (s : State) (n : ℕ). Some (node s n)) (sym (e.state ∙ c.in_ok-initial.ensures)) (sym e.cost));
    }

-- what is known of the state s of the parent e of a posted successor k
record IsFrom (x : ExpandedPlans) (k : Kid) (e : ExpandedPlan) (s : State) : Type 0 where
  within : k.parent < length x.entries.items
  known : k.action < length x.task.now.actions
  of_task : IsStateOf x.task.now s
  applies : is_applicable x.task.now (Some (node s e.cost)) k.action ≡ true

from_parent : (x : ExpandedPlans) (held : IsExpanded x) (k : Kid) → knows_parent (unmarked x) k ≡ true → is_posted (unmarked x) k ≡ true → k.parent ≢ ROOT_PARENT
    → (e : ExpandedPlan) → e ≡ get_or x.entries.items k.parent e → (s : State) → s ≡ e.state → IsFrom x k e s
from_parent x held k known posted other e at s is =
    let lt = entry_kid x held k known other in
    let applies = entry_posted x held k e e lt at ∙ posted in
    record {
      within = lt;
      known = applicable_within x.task.now (node_at e) k.action applies;
      of_task = subst (IsStateOf x.task.now) (sym is) (entry_state x held k.parent e e lt at);
      applies = ap (λ (u : State). is_applicable x.task.now (Some (node u e.cost)) k.action) is ∙ applies;
    }

pub leads-requires-clause-known : goal.leads-requires-clause-known
leads-requires-clause-known c =
    (from_parent c.args.self.now c.requires.held c.args.kid c.requires.known c.requires.posted c.if-kid-eq-ROOT_PARENT.false c.at-parent.result c.at-parent.ensures c.state-state.result.now (c.state-state.ensures ∙ c.in_ok-from.ensures)).known

pub leads-requires-clause-of_task : goal.leads-requires-clause-of_task
leads-requires-clause-of_task c =
    (from_parent c.args.self.now c.requires.held c.args.kid c.requires.known c.requires.posted c.if-kid-eq-ROOT_PARENT.false c.at-parent.result c.at-parent.ensures c.state-state.result.now (c.state-state.ensures ∙ c.in_ok-from.ensures)).of_task

pub known-requires : goal.known-requires
known-requires c =
    let x = c.args.self.now in
    let e = c.at-parent.result in
    let s = c.state-state.result.now in
    let from = from_parent x c.requires.held c.args.kid c.requires.known c.requires.posted c.if-kid-eq-ROOT_PARENT.false e c.at-parent.ensures s (c.state-state.ensures ∙ c.in_ok-from.ensures) in
    let next = led_next (step_at x.task.now (node s e.cost) c.args.kid.action) c.in-Next.state c.in-Next.hash c.in-Next.cost (sym c.in-Next.is ∙ c.in_ok-state.ensures) in
    subst (IsStateOf x.task.now) (sym c.known-state.ensures)
    ((step_at-says x.task.now (node s e.cost) c.args.kid.action from.of_task).next_of_task c.in-Next.state c.in-Next.cost next.leads)

pub unreachable-requires : goal.unreachable-requires
unreachable-requires c =
    let x = c.args.self.now in
    let e = c.at-parent.result in
    let s = c.state-state.result.now in
    let from = from_parent x c.requires.held c.args.kid c.requires.known c.requires.posted c.if-kid-eq-ROOT_PARENT.false e c.at-parent.ensures s (c.state-state.ensures ∙ c.in_ok-from.ensures) in
    true≢false (sym from.applies ∙ not_by_no x.task.now (node s e.cost) c.args.kid.action from.of_task (sym c.in-No.is ∙ c.in_ok-state.ensures))

pub unreachable-requires-in-Departs : goal.unreachable-requires-in-Departs
unreachable-requires-in-Departs c =
    let x = c.args.self.now in
    let e = c.at-parent.result in
    let s = c.state-state.result.now in
    let from = from_parent x c.requires.held c.args.kid c.requires.known c.requires.posted c.if-kid-eq-ROOT_PARENT.false e c.at-parent.ensures s (c.state-state.ensures ∙ c.in_ok-from.ensures) in
    true≢false (sym from.applies ∙ not_by_departure x.task.now (node s e.cost) c.args.kid.action from.of_task (sym c.in-Departs.is ∙ c.in_ok-state.ensures))

pub returns-clause-leads : goal.returns-clause-leads
returns-clause-leads c =
    let x = c.args.self.now in
    let k = c.args.kid in
    let e = c.at-parent.result in
    let s = c.state-state.result.now in
    let is = c.state-state.ensures ∙ c.in_ok-from.ensures in
    let from = from_parent x c.requires.held k c.requires.known c.requires.posted c.if-kid-eq-ROOT_PARENT.false e c.at-parent.ensures s is in
    let to = node c.in-Next.state c.in-Next.cost in
    let step : step_by x.task.now (node s e.cost) k.action ≡ Some to =
    (applies_by_next x.task.now (node s e.cost) k.action c.in-Next.state c.in-Next.hash c.in-Next.cost from.of_task (sym c.in-Next.is ∙ c.in_ok-state.ensures)).leads
    in
    let there : step_by x.task.now (node_at e) k.action ≡ Some to = subst (λ (u : State). step_by x.task.now (node u e.cost) k.action ≡ Some to) is step in
    let told = c.known.ensures in
    record {
      task = told.task;
      leads = ap (node_of (unmarked x)) told.kid
          ∙ (entry_leads x c.requires.held k e e to from.within c.at-parent.ensures there
          ∙ ap₂ (λ (u : State) (n : ℕ). Some (node u n)) (sym (told.state ∙ c.known-state.ensures)) (sym told.cost));
    }
