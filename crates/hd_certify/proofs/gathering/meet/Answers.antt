use Rattle.std.proofs.Common.{◌∙◌, List, sym, ap, subst}
use Rattle.std.specs.List.{AllByRecursion}
use Rattle.hd_certify.specs.declared.gathering.MetNode.{MetNode}
use Rattle.hd_certify.specs.Gathering.{IsMet, nodes_met}
use Rattle.hd_certify.proofs.Meeting.{all_met_more, nodes_more}
use Rattle.hd_certify.proofs.gathering.meet.Goals as goal

pub returns-clause-met : goal.returns-clause-met
returns-clause-met c =
    let old = c.args.closed.now.states in
    let new = c.place_of.new.self.states in
    subst (λ (ms : List MetNode). AllByRecursion (IsMet new) ms) (sym c.in_ok-push.ensures.items)
    (all_met_more old new c.place_of.ensures.begins c.args.nodes.now.items c.requires.met c.in_ok-place.place c.args.cost c.args.state.now c.in_ok-place.ensures.place)

pub returns-clause-nodes : goal.returns-clause-nodes
returns-clause-nodes c =
    let old = c.args.closed.now.states in
    let new = c.place_of.new.self.states in
    ap (nodes_met new) c.in_ok-push.ensures.items
    ∙ nodes_more old new c.place_of.ensures.begins c.args.nodes.now.items c.requires.met c.in_ok-place.place c.args.cost c.args.state.now c.in_ok-place.ensures.place
