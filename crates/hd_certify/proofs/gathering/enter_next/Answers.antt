use Rattle.std.proofs.Common.{◌∙◌, ◌++◌, List, [], ◌∷◌, Option, Some, map, sym, ap}
use Rattle.hd_task.specs.Plans.{Node, node}
use Rattle.hd_node.specs.Children.{ChildView}
use Rattle.hd_entries.specs.Resuming.{child_node, posted_nodes}
use Rattle.hd_certify.specs.Covering.{node_in}
use Rattle.hd_certify.proofs.Meeting.{nodes_on}
use Rattle.hd_certify.proofs.gathering.enter_next.Goals as goal

pub returns-clause-gathered : goal.returns-clause-gathered
returns-clause-gathered c =
    let g = c.args.gathered.now in
    let before = c.requires.gathered in
    let entered = c.in_ok-outline.ensures in
    let o = c.in_ok-outline.outline in
    let cs = c.in_ok-outline.children in
    let mid = c.close_entry.new.closed.states in
    let shut = c.in_ok-close_entry.ensures in
    let met = c.in_ok-meet_all.ensures in
    record {
      task = met.task ∙ (shut.task ∙ (before.task ∙ sym entered.task));
      kept = entered.kept;
      closed = ap (map node_in) met.closed ∙ (shut.closed ∙ (ap (λ (rs : List (Option Node)). rs ++ Some (node o.state o.cost) ∷ []) before.closed ∙ sym entered.leads.leads));
      met = met.met;
      nodes =
          met.nodes
          ∙ (ap (λ (rs : List (Option Node)). rs ++ map child_node c.as_slice.result.now) (nodes_on g.closed.states mid shut.begins g.nodes.items before.met ∙ before.nodes)
          ∙ (ap (λ (xs : List ChildView). posted_nodes g.entries.state ++ map child_node xs) c.as_slice.ensures ∙ sym entered.leads.posts));
    }
