use Rattle.std.proofs.Common.{[], ◌++◌, List, map, length, ap, sym, ◌∙◌, arith, append-nil}
use Rattle.std.specs.Vec.Iter.{into_iter_items}
use Rattle.std.proofs.lemmas.List.{nil_from_length}
use Rattle.hd_turns.specs.Worker.{WorkerView}
use Rattle.hd_world.specs.Seats.{Seat}
use Rattle.hd_replay.specs.Seats.{seat_with}
use Rattle.hd_replay.proofs.Begins.{seats_more}
use Rattle.hd_replay.proofs.starting.seats_of.Goals as goal

pub loop-worker-init : goal.loop-worker-init
loop-worker-init c =
    let gives = c.into_iter-worker-iterator.ensures.into_iter_gives in
    let e = c.in_ok-seats.ensures in
    record {
      left = omega (arith, ap length gives.0, gives.1);
      room = omega (arith, ap length gives.0, e.len, e.capacity, c.len.ensures);
      seats =
          ap (λ (ss : List Seat). ss ++ map seat_with (into_iter_items c.into_iter-worker-iterator.result)) e.items
          ∙ ap (λ (ws : List WorkerView). map seat_with ws) gives.0;
    }

pub loop-worker-preserved : goal.loop-worker-preserved
loop-worker-preserved c =
    let steps = c.in-Some.ensures.steps in
    let i = c.loop-worker.invariant in
    let p = c.push_reserved.ensures in
    record {
      left = omega (arith, steps.1, i.left, ap length steps.0);
      room = omega (arith, p.len, p.capacity, i.room, ap length steps.0);
      seats =
          seats_more c.loop-worker.seats.items c.push_reserved.new.self.items c.of.result c.in-Some.worker (into_iter_items c.loop-worker.worker-iterator)
          (into_iter_items c.next.new.self) (map seat_with c.args.workers.items) p.items c.of.ensures steps.0 i.seats;
    }

pub returns : goal.returns
returns c =
    let none = nil_from_length (into_iter_items c.loop-worker.worker-iterator) (sym c.loop-worker.invariant.left ∙ c.in-None.ensures.steps.0) in
    sym (append-nil c.loop-worker.seats.items)
    ∙ (ap (λ (ws : List WorkerView). c.loop-worker.seats.items ++ map seat_with ws) (sym none) ∙ c.loop-worker.invariant.seats)
