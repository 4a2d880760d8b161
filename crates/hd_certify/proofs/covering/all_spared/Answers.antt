use Rattle.std.proofs.Common.{List, map, take, get_or, sym, ap, subst, ◌∙◌, true≢false}
use Rattle.std.specs.List.{AllByRecursion}
use Rattle.std.proofs.lemmas.List.Elements.{Contains-get_or}
use Rattle.hd_base.proofs.Lists.{AllByRecursion-push}
use Rattle.hd_base.proofs.Members.{Contains-map}
use Rattle.hd_task.specs.declared.state.State.{State}
use Rattle.hd_task.specs.Plans.{Node}
use Rattle.hd_certify.specs.Covering.{IsSpared}
use Rattle.hd_certify.specs.Gathering.{node_met}
use Rattle.hd_certify.proofs.Meeting.{no_node, nodes_next}
use Rattle.hd_certify.proofs.covering.all_spared.Goals as goal

pub returns-then-not-is_spared-clause-spared : goal.returns-then-not-is_spared-clause-spared
returns-then-not-is_spared-clause-spared c =
    let b = c.args.entries.now.state in
    let ms = c.args.nodes.now in
    let i = c.loop-met.met-index in
    let r = node_met c.args.closed.now.states (get_or ms i no_node) in
    let same = ap (λ x. x.states) c.loop-met.invariant.same in (
      r,
      Contains-map (node_met c.args.closed.now.states) ms (get_or ms i no_node) (Contains-get_or ms i no_node c.loop-met-test.true),
      λ spared. true≢false (sym (c.is_spared.ensures.spared.1 (subst (λ (ss : List State). IsSpared b (node_met ss (get_or ms i no_node))) (sym same) spared)) ∙ c.if-not-is_spared.true),
    )

pub loop-met-preserved : goal.loop-met-preserved
loop-met-preserved c =
    let b = c.args.entries.now.state in
    let states = c.args.closed.now.states in
    let ms = c.args.nodes.now in
    let i = c.loop-met.met-index in
    let before = c.loop-met.invariant in
    let same = ap (λ x. x.states) before.same in
    let here = subst (λ (ss : List State). IsSpared b (node_met ss (get_or ms i no_node))) same (c.is_spared.ensures.spared.0 c.if-not-is_spared.false) in
    record {
      same = c.is_spared.ensures.same ∙ before.same;
      estimates_task = c.is_spared.ensures.estimates_task ∙ before.estimates_task;
      spared =
          subst (λ (rs : List Node). AllByRecursion (IsSpared b) rs) (sym (nodes_next states ms i c.loop-met-test.true))
          (AllByRecursion-push (IsSpared b) (map (node_met states) (take i ms)) (node_met states (get_or ms i no_node)) before.spared here);
    }
