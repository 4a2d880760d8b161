use Rattle.std.proofs.Common.{◌≡◌, length, refl, ap, sym, subst, ◌∙◌, arith}
use Rattle.std.specs.List.{AllByRecursion}
use Rattle.hd_threads.specs.Placing.{IsReadyAt}
use Rattle.hd_search.specs.Fault.{AreThreadsInOrder}
use Rattle.hd_search.proofs.Ordering.{one_longer, with_next}
use Rattle.hd_search.proofs.Places.{numbered_same}
use Rattle.hd_search.proofs.starting.start_all.Goals as goal

pub loop-place-init : goal.loop-place-init
loop-place-init g c =
    let gives = c.into_iter-place-iterator.ensures.into_iter_gives in
    let at = c.requires in
    let workers : c.len-workers.result ≡ length c.args.places.items = c.len-workers.ensures ∙ c.args.places.ok.0 in
    record {
      left = omega (arith, ap length gives.0, gives.1);
      each = subst (AllByRecursion (IsReadyAt c.args.desk.now)) (sym gives.0) at.each;
      numbered = numbered_same _ _ _ _ _ (sym workers) (sym gives.0) at.numbered;
      count = omega (arith, ap length gives.0, workers);
      order = subst (AreThreadsInOrder 0) (sym c.in_ok-threads.ensures.items) tt;
      many = ap length c.in_ok-threads.ensures.items;
    }

pub start-requires-clause-job : goal.start-requires-clause-job
start-requires-clause-job g c κs within =
    let steps = c.in-Some.ensures.steps in
    let was = c.loop-place.invariant in
    let numbered = numbered_same _ _ _ _ _ refl steps.0 was.numbered in
    let workers : c.len-workers.result ≡ length c.args.places.items = c.len-workers.ensures ∙ c.args.places.ok.0 in
    record {
      at = (subst (AllByRecursion (IsReadyAt c.args.desk.now)) steps.0 was.each).0;
      own = numbered.0;
      of = numbered.1;
      there = omega (arith, was.count, ap length steps.0);
      few = omega (arith, c.requires.few, workers);
      boxes = omega (arith, c.requires.boxes, workers);
    }

pub loop-place-preserved : goal.loop-place-preserved
loop-place-preserved g c =
    let steps = c.in-Some.ensures.steps in
    let was = c.loop-place.invariant in
    let numbered = numbered_same _ _ _ _ _ refl steps.0 was.numbered in
    record {
      left = omega (arith, steps.1, was.left, ap length steps.0);
      each = (subst (AllByRecursion (IsReadyAt c.args.desk.now)) steps.0 was.each).1;
      numbered = numbered.2;
      count = omega (arith, was.count, ap length steps.0);
      order = subst (AreThreadsInOrder 0) (sym c.in_ok-push_thread.ensures.items) (with_next c.loop-place.threads.items _ 0 _ was.order (omega (arith, was.many)) c.in_ok-thread.ensures.of);
      many = ap length c.in_ok-push_thread.ensures.items ∙ one_longer c.loop-place.threads.items _ _ was.many;
    }
