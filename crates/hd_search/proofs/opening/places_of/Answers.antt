use Rattle.std.proofs.Common.{◌≡◌, ◌+◌, List, ◌∷◌, ◌++◌, length, ap, sym, subst, ◌∙◌, arith, append-nil}
use Rattle.std.specs.List.{AllByRecursion}
use Rattle.std.specs.Vec.Iter.{into_iter_items}
use Rattle.std.proofs.lemmas.List.{nil_from_length}
use Rattle.hd_base.proofs.Lists.{AllByRecursion-push}
use Rattle.hd_turns.specs.Worker.{WorkerView}
use Rattle.hd_threads.specs.Placing.{IsReadyAt}
use Rattle.hd_search.specs.Opening.{IsFresh, HasSeenStart}
use Rattle.hd_search.proofs.Places.{one_more, workers_at}
use Rattle.hd_search.proofs.Seating.{room_for}
use Rattle.hd_search.proofs.opening.places_of.Goals as goal

pub loop-worker-init : goal.loop-worker-init
loop-worker-init g c =
    let gives = c.into_iter-worker-iterator.ensures.into_iter_gives in
    let none = c.in_ok-places.ensures.items in
    record {
      left = omega (arith, ap length gives.0, gives.1);
      fresh = subst (AllByRecursion (IsFresh c.args.task.now)) (sym gives.0) c.requires.fresh;
      room = λ log room. room_for _ _ _ _ _ _ (sym (ap length gives.0)) room;
      each = subst (AllByRecursion (IsReadyAt c.args.desk.now)) (sym none) tt;
      seen = subst (AllByRecursion (HasSeenStart c.args.desk.now)) (sym none) tt;
      same = ap (λ xs. workers_at xs ++ into_iter_items c.into_iter-worker-iterator.result) none ∙ gives.0;
    }

pub place_of-requires-clause-fresh : goal.place_of-requires-clause-fresh
place_of-requires-clause-fresh g c =
    (subst (AllByRecursion (IsFresh c.args.task.now)) c.in-Some.ensures.steps.0 c.loop-worker.invariant.fresh).0

pub place_of-requires-clause-room : goal.place_of-requires-clause-room
place_of-requires-clause-room g c =
    let rest = into_iter_items c.next.new.self in
    let more : length (into_iter_items c.loop-worker.worker-iterator) ≡ length rest + 1 = omega (arith, ap length c.in-Some.ensures.steps.0) in (
      c.requires.room.0,
      length rest,
      room_for _ _ _ _ _ _ more (c.loop-worker.invariant.room c.requires.room.0 c.requires.room.1),
    )

pub loop-worker-preserved : goal.loop-worker-preserved
loop-worker-preserved g c =
    let steps = c.in-Some.ensures.steps in
    let rest = into_iter_items c.next.new.self in
    let was = c.loop-worker.invariant in
    let place = c.in_ok-place_of in
    let more : length (into_iter_items c.loop-worker.worker-iterator) ≡ length rest + 1 = omega (arith, ap length steps.0) in
    record {
      left = omega (arith, steps.1, was.left, ap length steps.0);
      fresh = (subst (AllByRecursion (IsFresh c.args.task.now)) steps.0 was.fresh).1;
      room = λ log room.
          place.ensures.room log (length rest)
          (room_for _ _ _ _ _ _ more (was.room log room));
      each =
          subst (AllByRecursion (IsReadyAt c.args.desk.now)) (sym c.in_ok-push.ensures.items)
          (AllByRecursion-push (IsReadyAt c.args.desk.now) c.loop-worker.places.items _ was.each place.ensures.at);
      seen =
          subst (AllByRecursion (HasSeenStart c.args.desk.now)) (sym c.in_ok-push.ensures.items)
          (AllByRecursion-push (HasSeenStart c.args.desk.now) c.loop-worker.places.items _ was.seen place.ensures.bound);
      same =
          ap (λ xs. workers_at xs ++ rest) c.in_ok-push.ensures.items
          ∙ one_more c.loop-worker.places.items _ rest c.args.workers.items
          (ap (λ (w : WorkerView). workers_at c.loop-worker.places.items ++ w ∷ rest) place.ensures.worker
          ∙ (ap (λ (ws : List WorkerView). workers_at c.loop-worker.places.items ++ ws) (sym steps.0) ∙ was.same));
    }

pub returns-clause-workers : goal.returns-clause-workers
returns-clause-workers g c =
    let none = nil_from_length (into_iter_items c.loop-worker.worker-iterator) (sym c.loop-worker.invariant.left ∙ c.in-None.ensures.steps.0) in
    sym (append-nil (workers_at c.loop-worker.places.items))
    ∙ (ap (λ (ws : List WorkerView). workers_at c.loop-worker.places.items ++ ws) (sym none) ∙ c.loop-worker.invariant.same)

pub returns-clause-room : goal.returns-clause-room
returns-clause-room g c = λ log room.
    let none = nil_from_length (into_iter_items c.loop-worker.worker-iterator) (sym c.loop-worker.invariant.left ∙ c.in-None.ensures.steps.0) in
    room_for _ _ _ _ _ _ (ap length none) (c.loop-worker.invariant.room log room)
