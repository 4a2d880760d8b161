use Rattle.std.proofs.Common.{◌≡◌, ℕ, ◌+◌, ◌-◌, List, length, drop, take, take_all, length-drop, refl, sym, ap, ap₂, ◌∙◌, subst, arith}
use Rattle.std.specs.List.{AllByRecursion}
use Rattle.hd_task.specs.declared.task.Task.{Task}
use Rattle.hd_base.proofs.Lists.{AllByRecursion-push}
use Rattle.hd_closed.specs.Closed.{ClosedView}
use Rattle.hd_worker.specs.Nodes.{AreMet, IsNodeOf, waiting_by}
use Rattle.hd_worker.specs.declared.node.WaitingNode.{WaitingNode}
use Rattle.hd_worker.proofs.Settled.{first_there, waiting_moved, waiting_stays, parcels_moved, nodes_stay, begins_twice}
use Rattle.hd_worker.proofs.Meeting.{begins_same, met_stays, met_tail}
use Rattle.hd_worker.proofs.arriving.open_some.Goals as goal

pub loop-rest-preserved : goal.loop-rest-preserved
loop-rest-preserved c =
    let t = c.args.known.now.task in
    let before = c.loop-rest in
    let inv = c.loop-rest.invariant in
    let states = c.node_for.new.known.states in
    let n = c.in_ok-node.node in
    let nodes = c.open_first.new.nodes.nodes in
    let fresh = c.open_first.new.fresh.items in
    let begins = (begins_same c.node_for.new.known.states c.loop-rest.known.states (ap (λ (k : ClosedView). k.states) c.node_for.ensures.same)) in
    let more = c.in_ok-open_first.ensures.nodes in
    let rest = c.in_ok-open_first.ensures.rest in
    let left = before.rest.now in
    let whole : take (length left - 1) (drop 1 left) ≡ drop 1 left = take_all (length left - 1) (drop 1 left) (omega (arith, length-drop 1 left)) in
    record {
      same_task = ap (λ (k : ClosedView). k.task) c.node_for.ensures.same ∙ inv.same_task;
      closed = ap (λ (k : ClosedView). k.closed) c.node_for.ensures.same ∙ inv.closed;
      begins = begins_twice c.args.known.now.states before.known.states states inv.begins begins;
      estimates = c.node_for.ensures.estimates ∙ inv.estimates;
      nodes =
          subst (λ (ns : List WaitingNode). AllByRecursion (IsNodeOf t states) ns) (sym more)
          (AllByRecursion-push (IsNodeOf t states) before.nodes.nodes n (nodes_stay t before.known.states states before.nodes.nodes begins inv.nodes)
          (subst (λ (u : Task). IsNodeOf u states n) inv.same_task c.in_ok-node.ensures.is_node));
      parcels = parcels_moved t before.fresh.items fresh rest inv.parcels;
      waiting =
          waiting_moved t before.known.states states before.nodes.nodes nodes before.fresh.items fresh n c.in-Some.parcel.now begins inv.nodes more rest
          (first_there before.fresh.items c.in-Some.parcel.now c.in-Some.ensures.lookup c.in-Some.ensures.item.3.0) c.in_ok-node.ensures.released
          ∙ inv.waiting;
      met =
          subst (AreMet states fresh) (sym whole)
          (met_stays before.known.states states fresh (drop 1 before.rest.now) begins
          (met_tail before.known.states before.fresh.items fresh before.rest.now inv.met rest));
      counted = omega (arith, c.in-len1-up.len_at_least, ap length whole, length-drop 1 before.rest.now, ap length rest, length-drop 1 before.fresh.items, c.in-Some.ensures.item.3.0, inv.counted);
      fewer = omega (arith, c.open_first.ensures.fewer, inv.fewer);
      capacity = c.open_first.ensures.capacity ∙ inv.capacity;
    }

pub returns-in_err-open_first-clause-nodes : goal.returns-in_err-open_first-clause-nodes
returns-in_err-open_first-clause-nodes c =
    let t = c.args.known.now.task in
    let before = c.loop-rest in
    let states = c.node_for.new.known.states in
    subst (λ (ns : List WaitingNode). AllByRecursion (IsNodeOf t states) ns) (sym c.in_err-open_first.ensures.err)
    (nodes_stay t before.known.states states before.nodes.nodes (begins_same c.node_for.new.known.states c.loop-rest.known.states (ap (λ (k : ClosedView). k.states) c.node_for.ensures.same)) before.invariant.nodes)

pub returns-in_err-open_first-clause-waiting : goal.returns-in_err-open_first-clause-waiting
returns-in_err-open_first-clause-waiting c =
    let before = c.loop-rest in
    let states = c.node_for.new.known.states in
    ap₂ (waiting_by states) c.in_err-open_first.ensures.err c.in_err-open_first.ensures.parcels
    ∙ (waiting_stays c.args.known.now.task before.known.states states before.nodes.nodes before.fresh.items (begins_same c.node_for.new.known.states c.loop-rest.known.states (ap (λ (k : ClosedView). k.states) c.node_for.ensures.same)) before.invariant.nodes
    ∙ before.invariant.waiting)

pub returns-in_err-places-clause-nodes : goal.returns-in_err-places-clause-nodes
returns-in_err-places-clause-nodes c =
    nodes_stay c.args.known.now.task c.args.known.now.states c.meet_some.new.known.states c.args.nodes.now.nodes c.meet_some.ensures.begins c.requires.nodes

pub returns-in_err-places-clause-waiting : goal.returns-in_err-places-clause-waiting
returns-in_err-places-clause-waiting c =
    waiting_stays c.args.known.now.task c.args.known.now.states c.meet_some.new.known.states c.args.nodes.now.nodes c.args.fresh.now.items c.meet_some.ensures.begins c.requires.nodes

pub loop-rest-init : goal.loop-rest-init
loop-rest-init c =
    let t = c.args.known.now.task in
    let before = c.args.known.now.states in
    let states = c.meet_some.new.known.states in
    let nodes = c.args.nodes.now.nodes in
    let fresh = c.args.fresh.now in
    let begins = c.meet_some.ensures.begins in
    record {
      same_task = c.meet_some.ensures.task;
      closed = c.meet_some.ensures.closed;
      begins = begins;
      estimates = c.meet_some.ensures.estimates;
      nodes = nodes_stay t before states nodes begins c.requires.nodes;
      parcels = c.requires.parcels;
      waiting = waiting_stays t before states nodes fresh.items begins c.requires.nodes;
      met = subst (AreMet states fresh.items) (sym c.as_slice-rest.ensures.value) c.in_ok-places.ensures.places;
      counted = ap (λ (n : ℕ). length fresh.items + n) (sym c.in_ok-places.ensures.count ∙ ap length (sym c.as_slice-rest.ensures.value));
      fewer = omega arith;
      capacity = refl;
    }
