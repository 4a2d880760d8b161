use Rattle.std.proofs.Common.{ap, ◌∙◌, arith}
use Rattle.hd_open.proofs.Taking.{nodes_push, kept_push}
use Rattle.hd_open.proofs.open.OpenList.push.Goals as goal

pub invariant_of-self-2 : goal.invariant_of-self-2
invariant_of-self-2 g c =
    kept_push g.T.Waits.total c.make_room.new.slots.items c.append.new.slots.items c.make_room.new.queue c.add.new.self c.append.new.counts c.args.node
    c.total-total.result c.len-arrival.result c.total-total.ensures (omega arith)
    c.append.ensures.slots
    c.make_room.ensures.kept.queued c.make_room.ensures.kept.single c.make_room.ensures.kept.latest c.in_default-add.ensures.orderly c.in_default-add.ensures.added
    c.in_default-add.ensures.stays c.in_default-add.ensures.only c.append.ensures.marked c.append.ensures.counted

pub returns-clause-nodes : goal.returns-clause-nodes
returns-clause-nodes g c =
    nodes_push c.make_room.new.slots.items c.append.new.slots.items c.args.self.now.nodes c.args.node (c.make_room.ensures.nodes ∙ ap (λ o. o.nodes) c.self.view_is)
    c.append.ensures.slots
