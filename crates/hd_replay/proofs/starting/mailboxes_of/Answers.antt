use Rattle.std.proofs.Common.{ℕ, [], replicate, List, ap, ◌∙◌, arith}
use Rattle.hd_node.specs.Parcel.{ParcelView}
use Rattle.hd_replay.proofs.Begins.{boxes_none, boxes_more}
use Rattle.hd_replay.proofs.starting.mailboxes_of.Goals as goal

pub loop-worker-init : goal.loop-worker-init
loop-worker-init c = record {
  count = c.in_ok-mailboxes.ensures.len;
  room = c.in_ok-mailboxes.ensures.capacity;
  boxes = boxes_none _ c.in_ok-mailboxes.mailboxes.items c.in_ok-mailboxes.ensures.items;
}

pub loop-worker-preserved : goal.loop-worker-preserved
loop-worker-preserved c =
    let i = c.loop-worker.invariant in
    let p = c.push_reserved.ensures in
    record {
      count = omega (arith, p.len, i.count);
      room = omega (arith, p.capacity, i.room);
      boxes = boxes_more _ c.loop-worker.mailboxes.items c.push_reserved.new.self.items c.new.result c.loop-worker._worker i.boxes c.new.ensures.items p.items;
    }

pub returns : goal.returns
returns c =
    c.loop-worker.invariant.boxes
    ∙ ap (λ (n : ℕ). replicate {A = List ParcelView} n []) (omega (arith, c.loop-worker-test.false, c.loop-worker.auto._worker-end))
