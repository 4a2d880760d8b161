-- A worker at its place, from call to call.
use Rattle.std.proofs.Common.{◌≡◌, ℕ, ◌+◌, ◌<◌, Some, Result, Ok, Err, List, [], refl, sym, ap, subst, ◌∙◌}
use Rattle.std.specs.Prelude.{IfOk}
use Rattle.crossbeam_queue.specs.Passes.{Pass, view}
use Rattle.hd_task.specs.declared.plan.Kid.{Kid}
use Rattle.hd_desk.specs.Bound.{SeatView}
use Rattle.hd_desk.specs.declared.view.View.{View}
use Rattle.hd_desk.specs.Hands.{IsFor}
use Rattle.hd_desk.specs.Passes.{IsOutside}
use Rattle.hd_base.specs.Lists.{BeginsWith}
use Rattle.hd_worker.specs.Lookup.{IsLookupOf}
use Rattle.hd_turns.specs.Worker.{WorkerView}
use Rattle.hd_threads.specs.declared.working.Committed.{Committed}
use Rattle.hd_threads.specs.declared.working.Committed.TheVariants.{Taken, Halted, Idle}
use Rattle.hd_threads.specs.declared.placing.Desk.{Desk}
use Rattle.hd_threads.specs.declared.placing.Workplace.{Workplace}
use Rattle.hd_threads.specs.Working.{HasCommitted}
use Rattle.hd_threads.specs.Placing.{IsSeated, Keeps, IsStill, IsAfterCommit}
use Rattle.hd_threads.proofs.Begins.{begins_itself, begins_along}
use Rattle.hd_threads.proofs.Stays.{batch_numbered, batch_room}

module _ {B T I : Type 0} where
  -- a pass that is the same knows the same
  same_parts : (p q : Pass B (View T I)) → q ≡ p → (view q).parts ≡ (view p).parts
  same_parts p q e = ap (λ (s : Pass B (View T I)). (view s).parts) e

  same_task : (p q : Pass B (View T I)) → q ≡ p → (view q).seen.task ≡ (view p).seen.task
  same_task p q e = ap (λ (s : Pass B (View T I)). (view s).seen.task) e

  same_log : (p q : Pass B (View T I)) → q ≡ p → (view p).seen.log ≡ (view q).seen.log
  same_log p q e = sym (ap (λ (s : Pass B (View T I)). (view s).seen.log) e)

module _ {L A : Type 0} where
  -- ---- what is kept, from call to call

  pub keeps_itself : (p : Workplace L A) → Keeps p p
  keeps_itself p = record { parts = refl; share = refl; seat = refl; hands = refl; grows = begins_itself (view p.pass).seen.log; task = refl }

  pub keeps_along : (p q r : Workplace L A) → Keeps p q → Keeps q r → Keeps p r
  keeps_along p q r x y = record {
    parts = y.parts ∙ x.parts;
    share = y.share ∙ x.share;
    seat = y.seat ∙ x.seat;
    hands = y.hands ∙ x.hands;
    grows = begins_along (view r.pass).seen.log (view q.pass).seen.log (view p.pass).seen.log y.grows x.grows;
    task = y.task ∙ x.task;
  }

  pub still_itself : (p : Workplace L A) → IsStill p p
  still_itself p = record { pass = refl; share = refl; seat = refl; hands = refl; task = refl; room = refl }

  pub still_along : (p q r : Workplace L A) → IsStill p q → IsStill q r → IsStill p r
  still_along p q r x y = record {
    pass = y.pass ∙ x.pass;
    share = y.share ∙ x.share;
    seat = y.seat ∙ x.seat;
    hands = y.hands ∙ x.hands;
    task = y.task ∙ x.task;
    room = y.room ∙ x.room;
  }

  pub still_keeps : (p q : Workplace L A) → IsStill p q → Keeps p q
  still_keeps p q x = record {
    parts = same_parts p.pass q.pass x.pass;
    share = ap (λ s. s.parts) x.share;
    seat = x.seat;
    hands = x.hands;
    grows = subst (λ l. BeginsWith l (view p.pass).seen.log) (same_log p.pass q.pass x.pass) (begins_itself (view p.pass).seen.log);
    task = x.task;
  }

  -- ---- a place that has changed

  pub seated_by :
      (d : Desk L A) (p q : Workplace L A) → IsSeated d p
      → IsOutside d.lock.place q.pass → (view q.pass).seen.task ≡ (view p.pass).seen.task → q.share.parts ≡ p.share.parts → q.seat.of ≡ p.seat.of
      → IsFor d.boxes q.hands → q.hands.of ≡ p.hands.of → q.worker.task ≡ p.worker.task → IsLookupOf p.worker.task q.lookup → IsSeated d q
  seated_by d p q s outside task share seat hands of worker lookup = record {
    outside = outside;
    task = task ∙ (s.task ∙ ap Some (sym worker));
    part = subst (λ n. 0 < n) (sym share) s.part;
    seat = seat ∙ s.seat;
    hands = hands;
    parcels = worker ∙ (s.parcels ∙ sym of);
    lookup = subst (λ t. IsLookupOf t q.lookup) (sym worker) lookup;
  }

  -- parcels went out, or came in
  pub moved_seated :
      (d : Desk L A) (p q : Workplace L A) → IsSeated d p → IsFor d.boxes q.hands → q.hands.of ≡ p.hands.of → q.worker.task ≡ p.worker.task
      → q.pass ≡ p.pass → q.share ≡ p.share → q.seat ≡ p.seat → q.lookup ≡ p.lookup → IsSeated d q
  moved_seated d p q s hands of worker pass share seat lookup =
      seated_by d p q s (subst (IsOutside d.lock.place) (sym pass) s.outside) (same_task p.pass q.pass pass) (ap (λ x. x.parts) share) (ap (λ x. x.of) seat) hands of worker
      (subst (IsLookupOf p.worker.task) (sym lookup) s.lookup)

  -- the lock was entered and left
  pub entered_seated :
      (d : Desk L A) (p q : Workplace L A) → IsSeated d p → IsOutside d.lock.place q.pass → (view q.pass).seen.task ≡ (view p.pass).seen.task
      → q.share ≡ p.share → q.seat ≡ p.seat → q.hands ≡ p.hands → q.worker ≡ p.worker → q.lookup ≡ p.lookup → IsSeated d q
  entered_seated d p q s outside task share seat hands worker lookup =
      seated_by d p q s outside task (ap (λ x. x.parts) share) (ap (λ x. x.of) seat) (subst (IsFor d.boxes) (sym hands) s.hands) (ap (λ x. x.of) hands) (ap (λ x. x.task) worker)
      (subst (IsLookupOf p.worker.task) (sym lookup) s.lookup)

  -- ---- what became of a batch

  pub committed_behind :
      {E : Type 0} (d : Desk L A) (p q : Workplace L A) (before after : List Kid) (count count' : ℕ) (seat seat' : SeatView) (r : Result Committed E)
      → IsSeated d q → p.worker.given ≡ [] → IfOk r (HasCommitted before count seat p.worker after count' seat' q.worker) → IfOk r (IsAfterCommit d p q)
  committed_behind d p q before after count count' seat seat' (Ok (Taken held)) at none x = (
    record { seated = at; numbered = batch_numbered before count seat p.worker after count' seat' q.worker held.ticket x.0 },
    batch_room before count seat p.worker after count' seat' q.worker held.ticket x.0 ∙ ap (λ n. p.worker.room + n) (sym x.1),
  )
  committed_behind d p q before after count count' seat seat' (Ok Halted) at none x = tt
  committed_behind d p q before after count count' seat seat' (Ok Idle) at none x =
      (record { seated = at; numbered = ap (λ (v : WorkerView). v.given) x.1 ∙ none }, ap (λ (v : WorkerView). v.room) x.1)
  committed_behind d p q before after count count' seat seat' (Err e) at none x = tt
