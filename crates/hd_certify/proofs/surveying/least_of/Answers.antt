use Rattle.std.proofs.Common.{◌≡◌, ◌+◌, ◌↔◌, true, List, map, take, get_or, Option, None, ℕ, sym, ap, subst, ◌∙◌, true≢false}
use Rattle.hd_task.specs.declared.state.State.{State}
use Rattle.hd_task.specs.declared.task.Task.{Task}
use Rattle.hd_task.specs.Plans.{Node}
use Rattle.hd_closed.specs.Closed.{ClosedView}
use Rattle.hd_certify.specs.Covering.{IsSpared}
use Rattle.hd_certify.specs.Gathering.{node_met}
use Rattle.hd_certify.specs.Survey.{Lessens, lesser, total_at}
use Rattle.hd_certify.proofs.Meeting.{no_node, nodes_next}
use Rattle.hd_certify.proofs.Surveys.{lessens_push, lessens_past}
use Rattle.hd_certify.proofs.surveying.least_of.Goals as goal
use Rattle.hd_certify.proofs.surveying.least_of.Goals.{then-not-is_spared, else-not-is_spared}

pub loop-met-preserved : goal.loop-met-preserved
loop-met-preserved c =
    let b = c.args.entries.now.state in
    let states = c.args.closed.now.states in
    let ms = c.args.nodes.now in
    let i = c.loop-met.met-index in
    let r = node_met states (get_or ms i no_node) in
    let before = c.loop-met.invariant in
    let nodes = nodes_next states ms i c.loop-met-test.true in
    let spared = subst (λ (ss : List State). (c.is_spared.result ≡ true) ↔ IsSpared b (node_met ss (get_or ms i no_node))) (ap (λ x. x.states) before.same) c.is_spared.ensures.spared in
    elim c.if-not-is_spared.branch [
      | then-not-is_spared w ↦
          record {
            same = w.closed-is ∙ (w.total_at.ensures.same ∙ (c.is_spared.ensures.same ∙ before.same));
            estimates_task = ap (λ x. x.task) w.estimates-is ∙ (w.total_at.ensures.estimates_task ∙ (c.is_spared.ensures.estimates_task ∙ before.estimates_task));
            lessens =
                subst (λ (m : Option ℕ). Lessens b.task (IsSpared b) (map (node_met states) (take (i + 1) ms)) None m) (sym w.least-is)
                (subst (λ (rs : List Node). Lessens b.task (IsSpared b) rs None w.lesser-least.result) (sym nodes)
                (lessens_push b.task (IsSpared b) (map (node_met states) (take i ms)) r None c.loop-met.least w.lesser-least.result before.lessens
                (λ p. true≢false (sym (spared.1 p) ∙ w.if-not-is_spared.true))
                (w.lesser-least.ensures
                ∙ ap (lesser c.loop-met.least)
                (w.total_at.ensures.total
                ∙ (ap (λ (x : ClosedView). total_at x.task (node_met x.states (get_or ms i no_node))) (c.is_spared.ensures.same ∙ before.same)
                ∙ ap (λ (t : Task). total_at t r) c.requires.closed_task)))));
          }
      | else-not-is_spared w ↦
          record {
            same = w.closed-is ∙ (c.is_spared.ensures.same ∙ before.same);
            estimates_task = ap (λ x. x.task) w.estimates-is ∙ (c.is_spared.ensures.estimates_task ∙ before.estimates_task);
            lessens =
                subst (λ (m : Option ℕ). Lessens b.task (IsSpared b) (map (node_met states) (take (i + 1) ms)) None m) (sym w.least-is)
                (subst (λ (rs : List Node). Lessens b.task (IsSpared b) rs None c.loop-met.least) (sym nodes)
                (lessens_past b.task (IsSpared b) (map (node_met states) (take i ms)) r None c.loop-met.least before.lessens (spared.0 w.if-not-is_spared.false)));
          }
    ]
