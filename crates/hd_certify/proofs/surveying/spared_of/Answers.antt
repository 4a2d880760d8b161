use Rattle.std.proofs.Common.{◌≡◌, ◌↔◌, true, ℕ, List, [], ◌∷◌, ◌++◌, map, take, get_or, sym, ap, subst, ◌∙◌, arith}
use Rattle.hd_task.specs.declared.state.State.{State}
use Rattle.hd_task.specs.Plans.{Node}
use Rattle.hd_certify.specs.Covering.{IsSpared}
use Rattle.hd_certify.specs.Gathering.{node_met}
use Rattle.hd_certify.specs.Survey.{Tallies}
use Rattle.hd_certify.proofs.Meeting.{no_node, nodes_next}
use Rattle.hd_certify.proofs.Surveys.{tally_push, counted_few}
use Rattle.hd_certify.proofs.surveying.spared_of.Goals as goal

pub loop-met-preserved : goal.loop-met-preserved
loop-met-preserved c =
    let b = c.args.entries.now.state in
    let states = c.args.closed.now.states in
    let ms = c.args.nodes.now in
    let i = c.loop-met.met-index in
    let r = node_met states (get_or ms i no_node) in
    let before = c.loop-met.invariant in
    let is_so = c.is_spared-is_so.result in
    let counted = c.counted_on-spared.ensures in
    let few = counted_few is_so c.loop-met.spared i c.counted_on-spared.result before.few counted in
    let spared = subst (λ (ss : List State). (is_so ≡ true) ↔ IsSpared b (node_met ss (get_or ms i no_node))) (ap (λ x. x.states) before.same) c.is_spared-is_so.ensures.spared in
    record {
      same = c.is_spared-is_so.ensures.same ∙ before.same;
      estimates_task = c.is_spared-is_so.ensures.estimates_task ∙ before.estimates_task;
      tally =
          subst (λ (rs : List Node). Tallies (IsSpared b) rs 0 c.counted_on-spared.result) (sym (nodes_next states ms i c.loop-met-test.true))
          (subst (λ (m : ℕ). Tallies (IsSpared b) (map (node_met states) (take i ms) ++ r ∷ []) 0 m) (sym counted)
          (tally_push (IsSpared b) (map (node_met states) (take i ms)) r 0 c.loop-met.spared is_so before.tally spared));
      few = omega (arith, few);
    }
