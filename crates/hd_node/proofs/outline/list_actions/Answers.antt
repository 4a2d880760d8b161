use Rattle.std.proofs.Common.{◌≡◌, ◌∙◌, ℕ, ◌+◌, ◌≤◌, ◌<◌, List, [], ◌∷◌, ◌++◌, map, length, refl, sym, ap, subst, arith, append-nil, Some, None}
use Rattle.std.specs.Prelude.{find, nat_le}
use Rattle.std.proofs.lemmas.List.{map-append}
use Rattle.hd_task.specs.declared.state.State.{State}
use Rattle.hd_task.specs.declared.task.Task.{Task}
use Rattle.hd_task.specs.Plans.{node}
use Rattle.hd_task.specs.Departures.{goal_departs}
use Rattle.hd_task.specs.Expansions.{departing_at}
use Rattle.hd_task.specs.Stepping.{step_at}
use Rattle.hd_task.proofs.Reaching.{step_at-says}
use Rattle.hd_pack.specs.Leading.{led_of, test_of_led}
use Rattle.hd_successors.specs.Watching.{IsWatchedBy, candidates}
use Rattle.hd_node.specs.Children.{ChildView, children_at}
use Rattle.hd_node.proofs.Finding.{children_below, found_by_step}
use Rattle.hd_node.proofs.Leading.{tested_no, tested_departs, tested_yes}
use Rattle.hd_node.proofs.Skipping.{to_first, to_end}
use Rattle.hd_node.proofs.Steps.{action_of, children-actions, few_actions}
use Rattle.hd_node.proofs.outline.list_actions.Goals as goal
use Rattle.hd_node.proofs.outline.list_actions.Goals.{in-No, in-Departs+in_ok-push-in-Departs, in-Yes+in_ok-push-in-Yes}

pub loop-action-preserved : goal.loop-action-preserved
loop-action-preserved c =
    let t = c.args.task.now in
    let r = node c.args.state.now c.args.cost in
    let n = c.in-Some.action in
    let i = c.loop-action.invariant in
    let ws = c.args.successors.now.watched in
    let watched = subst (λ (u : Task). IsWatchedBy u.actions ws) c.requires.index c.args.successors.now.is_watched in
    let to = to_first t r ws watched c.loop-action.from n (ap (find (nat_le c.loop-action.from)) (sym c.requires.marked) ∙ sym c.in-Some.ensures) in
    let cs = children_below t r n in
    let acts : c.loop-action.actions.items ≡ map action_of cs = i.actions ∙ ap (map action_of) (sym to.0.children) in
    let ds = i.departures ∙ sym to.0.found in
    let says = step_at-says t r n c.requires.of_task in
    let answer = c.test_step.ensures ∙ ap (λ (s : State). test_of_led (led_of (step_at t (node s c.args.cost) n))) c.state.ensures in
    let within : n + 1 ≤ length t.actions = omega (arith, to.2) in
    elim c.match-test_step.branch [
      | in-No w ↦
          let found = found_by_step t r n _ _ cs cs _ _ says (tested_no (step_at t r n) (sym w.in-No.is ∙ answer)) refl ds (sym (append-nil cs)) (rw w.departures-is (sym (append-nil _))) in
          record { actions = rw w.actions-is (acts ∙ ap (map action_of) found.0); departures = found.1; within = within }
      | in-Departs+in_ok-push-in-Departs w ↦
          let found = found_by_step t r n _ _ cs cs _ _ says (tested_departs (step_at t r n) (sym w.in-Departs.is ∙ answer)) refl ds (sym (append-nil cs)) (rw w.departures-is w.in_ok-push-in-Departs.ensures.items) in
          record { actions = rw w.actions-is (acts ∙ ap (map action_of) found.0); departures = found.1; within = within }
      | in-Yes+in_ok-push-in-Yes w ↦
          let next = tested_yes (step_at t r n) (sym w.in-Yes.is ∙ answer) in
          let child : ChildView = record { action = n; state = next.0; cost = next.1 } in
          let found = found_by_step t r n _ _ cs (cs ++ child ∷ []) _ _ says next.2 refl ds refl (rw w.departures-is (sym (append-nil _))) in
          let grown : c.loop-action.actions.items ++ n ∷ [] ≡ map action_of (cs ++ child ∷ []) =
          ap (λ (xs : List ℕ). xs ++ n ∷ []) acts ∙ sym (map-append action_of cs (child ∷ []))
          in
          record { actions = rw w.actions-is (w.in_ok-push-in-Yes.ensures.items ∙ (grown ∙ ap (map action_of) found.0)); departures = found.1; within = within }
    ]

pub test_step-requires : goal.test_step-requires
test_step-requires c =
    let t = c.args.task.now in
    let ws = c.args.successors.now.watched in
    let watched = subst (λ (u : Task). IsWatchedBy u.actions ws) c.requires.index c.args.successors.now.is_watched in
    (to_first t (node c.args.state.now c.args.cost) ws watched c.loop-action.from c.in-Some.action (ap (find (nat_le c.loop-action.from)) (sym c.requires.marked) ∙ sym c.in-Some.ensures)).2

pub overflow_add-from : goal.overflow_add-from
overflow_add-from c =
    let t = c.args.task.now in
    let ws = c.args.successors.now.watched in
    let watched = subst (λ (u : Task). IsWatchedBy u.actions ws) c.requires.index c.args.successors.now.is_watched in
    let to = to_first t (node c.args.state.now c.args.cost) ws watched c.loop-action.from c.in-Some.action (ap (find (nat_le c.loop-action.from)) (sym c.requires.marked) ∙ sym c.in-Some.ensures) in
    omega (arith, to.2, few_actions t)

pub loop-action-smaller : goal.loop-action-smaller
loop-action-smaller c =
    let t = c.args.task.now in
    let ws = c.args.successors.now.watched in
    let watched = subst (λ (u : Task). IsWatchedBy u.actions ws) c.requires.index c.args.successors.now.is_watched in
    let to = to_first t (node c.args.state.now c.args.cost) ws watched c.loop-action.from c.in-Some.action (ap (find (nat_le c.loop-action.from)) (sym c.requires.marked) ∙ sym c.in-Some.ensures) in
    omega (arith, to.1, to.2)

pub returns-clause-actions : goal.returns-clause-actions
unfolding children_at
returns-clause-actions c =
    let t = c.args.task.now in
    let r = node c.args.state.now c.args.cost in
    let ws = c.args.successors.now.watched in
    let watched = subst (λ (u : Task). IsWatchedBy u.actions ws) c.requires.index c.args.successors.now.is_watched in
    let to = to_end t r ws watched c.loop-action.from (ap (find (nat_le c.loop-action.from)) (sym c.requires.marked) ∙ sym c.in_default.ensures) c.loop-action.invariant.within in
    c.from_vec.ensures ∙ (c.loop-action.invariant.actions ∙ (ap (map action_of) (sym to.children) ∙ children-actions t r))

pub returns-clause-departs : goal.returns-clause-departs
unfolding departing_at goal_departs
returns-clause-departs c =
    let t = c.args.task.now in
    let ws = c.args.successors.now.watched in
    let watched = subst (λ (u : Task). IsWatchedBy u.actions ws) c.requires.index c.args.successors.now.is_watched in
    let to = to_end t (node c.args.state.now c.args.cost) ws watched c.loop-action.from (ap (find (nat_le c.loop-action.from)) (sym c.requires.marked) ∙ sym c.in_default.ensures) c.loop-action.invariant.within in
    c.from_vec-2.ensures ∙ (c.loop-action.invariant.departures ∙ sym to.found)
