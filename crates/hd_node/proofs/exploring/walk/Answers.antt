use Rattle.std.proofs.Common.{◌∙◌, ◌+◌, ◌≤◌, [], ◌∷◌, ◌++◌, length, sym, ap, subst, arith, append-nil}
use Rattle.std.specs.Prelude.{find, nat_le}
use Rattle.hd_task.specs.declared.state.State.{State}
use Rattle.hd_task.specs.declared.task.Task.{Task}
use Rattle.hd_task.specs.Plans.{node}
use Rattle.hd_task.specs.Departures.{goal_departs}
use Rattle.hd_task.specs.Expansions.{departing_at}
use Rattle.hd_task.specs.Stepping.{step_at}
use Rattle.hd_task.proofs.Reaching.{step_at-says}
use Rattle.hd_pack.specs.Leading.{led_of}
use Rattle.hd_successors.specs.Watching.{IsWatchedBy}
use Rattle.hd_node.specs.Children.{ChildView, children_at}
use Rattle.hd_node.proofs.Finding.{found_by_step}
use Rattle.hd_node.proofs.Leading.{led_no, led_departs, led_next}
use Rattle.hd_node.proofs.Skipping.{to_first, to_end}
use Rattle.hd_node.proofs.Steps.{few_actions}
use Rattle.hd_node.proofs.exploring.walk.Goals as goal
use Rattle.hd_node.proofs.exploring.walk.Goals.{in-No, in-Departs+in_ok-push-in-Departs, in-Next+in_ok-push_child-in-Next}

pub loop-action-preserved : goal.loop-action-preserved
loop-action-preserved c =
    let t = c.args.task.now in
    let r = node c.args.state.now c.args.cost in
    let n = c.in-Some.action in
    let i = c.loop-action.invariant in
    let ws = c.args.successors.now.watched in
    let watched = subst (λ (u : Task). IsWatchedBy u.actions ws) c.requires.index c.args.successors.now.is_watched in
    let to = to_first t r ws watched c.loop-action.from n (ap (find (nat_le c.loop-action.from)) (sym c.requires.marked) ∙ sym c.in-Some.ensures) in
    let cs = i.children ∙ sym to.0.children in
    let ds = i.departures ∙ sym to.0.found in
    let says = step_at-says t r n c.requires.of_task in
    let answer = c.in_ok-leads.ensures ∙ ap (λ (s : State). led_of (step_at t (node s c.args.cost) n)) c.state.ensures in
    let within : n + 1 ≤ length t.actions = omega (arith, to.2) in
    elim c.match-branch-3.branch [
      | in-No w ↦
          let found = found_by_step t r n _ _ _ _ _ _ says (led_no (step_at t r n) (sym w.in-No.is ∙ answer)) cs ds (rw w.children-is (sym (append-nil _))) (rw w.departures-is (sym (append-nil _))) in
          record { children = found.0; departures = found.1; within = within }
      | in-Departs+in_ok-push-in-Departs w ↦
          let found = found_by_step t r n _ _ _ _ _ _ says (led_departs (step_at t r n) (sym w.in-Departs.is ∙ answer)) cs ds (rw w.children-is (sym (append-nil _))) (rw w.departures-is w.in_ok-push-in-Departs.ensures.items) in
          record { children = found.0; departures = found.1; within = within }
      | in-Next+in_ok-push_child-in-Next w ↦
          let next = led_next (step_at t r n) w.in-Next.next w.in-Next.hash w.in-Next.cost (sym w.in-Next.is ∙ answer) in
          let found = found_by_step t r n _ _ _ _ _ _ says next.leads cs ds (rw w.children-is (w.in_ok-push_child-in-Next.ensures ∙ ap (λ (x : ChildView). c.loop-action.children ++ x ∷ []) (w.of.ensures ∙ ap (λ (s : State). let child : ChildView = record { action = n; state = s; cost = w.in-Next.cost } in child) w.known.ensures))) (rw w.departures-is (sym (append-nil _))) in
          record { children = found.0; departures = found.1; within = within }
    ]

pub leads-requires-clause-known : goal.leads-requires-clause-known
leads-requires-clause-known c =
    let t = c.args.task.now in
    let ws = c.args.successors.now.watched in
    let watched = subst (λ (u : Task). IsWatchedBy u.actions ws) c.requires.index c.args.successors.now.is_watched in
    (to_first t (node c.args.state.now c.args.cost) ws watched c.loop-action.from c.in-Some.action (ap (find (nat_le c.loop-action.from)) (sym c.requires.marked) ∙ sym c.in-Some.ensures)).2

pub overflow_add-from : goal.overflow_add-from
overflow_add-from c =
    let t = c.args.task.now in
    let ws = c.args.successors.now.watched in
    let watched = subst (λ (u : Task). IsWatchedBy u.actions ws) c.requires.index c.args.successors.now.is_watched in
    let to = to_first t (node c.args.state.now c.args.cost) ws watched c.loop-action.from c.in-Some.action (ap (find (nat_le c.loop-action.from)) (sym c.requires.marked) ∙ sym c.in-Some.ensures) in
    omega (arith, to.2, few_actions t)

pub loop-action-smaller : goal.loop-action-smaller
loop-action-smaller c =
    let t = c.args.task.now in
    let ws = c.args.successors.now.watched in
    let watched = subst (λ (u : Task). IsWatchedBy u.actions ws) c.requires.index c.args.successors.now.is_watched in
    let to = to_first t (node c.args.state.now c.args.cost) ws watched c.loop-action.from c.in-Some.action (ap (find (nat_le c.loop-action.from)) (sym c.requires.marked) ∙ sym c.in-Some.ensures) in
    omega (arith, to.1, to.2)

pub returns-clause-children : goal.returns-clause-children
unfolding children_at
returns-clause-children c =
    let t = c.args.task.now in
    let ws = c.args.successors.now.watched in
    let watched = subst (λ (u : Task). IsWatchedBy u.actions ws) c.requires.index c.args.successors.now.is_watched in
    let to = to_end t (node c.args.state.now c.args.cost) ws watched c.loop-action.from (ap (find (nat_le c.loop-action.from)) (sym c.requires.marked) ∙ sym c.in_default.ensures) c.loop-action.invariant.within in
    c.loop-action.invariant.children ∙ sym to.children

pub returns-clause-departs : goal.returns-clause-departs
unfolding departing_at goal_departs
returns-clause-departs c =
    let t = c.args.task.now in
    let ws = c.args.successors.now.watched in
    let watched = subst (λ (u : Task). IsWatchedBy u.actions ws) c.requires.index c.args.successors.now.is_watched in
    let to = to_end t (node c.args.state.now c.args.cost) ws watched c.loop-action.from (ap (find (nat_le c.loop-action.from)) (sym c.requires.marked) ∙ sym c.in_default.ensures) c.loop-action.invariant.within in
    c.from_vec.ensures ∙ (c.loop-action.invariant.departures ∙ sym to.found)
