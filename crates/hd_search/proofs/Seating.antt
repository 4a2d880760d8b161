-- A place at a desk, and what is left for others.
use Rattle.std.proofs.Common.{◌≡◌, ℕ, ◌+◌, ◌-◌, ◌<◌, Some, List, map, sym, ap, subst, ◌∙◌, arith}
use Rattle.std.specs.List.{AllByRecursion}
use Rattle.crossbeam_queue.specs.Passes.{view}
use Rattle.hd_task.specs.declared.task.Task.{Task}
use Rattle.hd_task.specs.declared.plan.Kid.{Kid}
use Rattle.hd_desk.specs.Bound.{SeatView, one_part, less_part}
use Rattle.hd_desk.specs.declared.view.View.{View}
use Rattle.hd_desk.specs.Views.{less_one, another_of}
use Rattle.hd_desk.specs.Passes.{IsOutside}
use Rattle.hd_desk.specs.Hands.{HandsView, IsFor, parts_of, one_parts, less_parts}
use Rattle.hd_node.specs.Parcel.{ParcelView}
use Rattle.hd_worker.specs.Lookup.{IsLookupOf}
use Rattle.hd_threads.specs.declared.placing.Desk.{Desk}
use Rattle.hd_threads.specs.declared.placing.Workplace.{Workplace}
use Rattle.hd_threads.specs.Placing.{IsReadyAt}
use Rattle.hd_search.specs.declared.opening.Rest.{Rest}
use Rattle.hd_search.specs.Opening.{IsFresh, HasSeatsLeft, HasSeenStart}
use Rattle.hd_search.proofs.Parts.{all_less}

module _ {L A : Type 0} (t : Task) (log : List Kid) (d : Desk L A) (left : ℕ) (r : Rest L A) (room : HasSeatsLeft t log d (left + 1) r) where
  -- what a place gets a part of
  pub at_place : (p : Workplace L A) → IsFresh t p.worker → IsOutside d.lock.place p.pass → view p.pass ≡ another_of (view r.pass) → p.share.parts ≡ 1 → p.seat ≡ one_part r.seat → IsFor d.boxes p.hands → p.hands ≡ one_parts r.hands → IsLookupOf t p.lookup → IsReadyAt d p
  at_place p fresh outside pass share seat for hands lookup = record {
    seated = record {
      outside = outside;
      task = ap (λ (v : View Task Kid). v.seen.task) pass ∙ (room.seen.task ∙ ap Some (sym fresh.task));
      part = subst (λ n. 0 < n) (sym share) (omega arith);
      seat = ap (λ (s : SeatView). s.of) seat ∙ room.seat;
      hands = for;
      parcels = fresh.task ∙ (sym room.parcels ∙ sym (ap (λ (h : HandsView Task ParcelView). h.of) hands));
      lookup = subst (λ (u : Task). IsLookupOf u p.lookup) (sym fresh.task) lookup;
    };
    numbered = fresh.numbered;
  }

  -- it has seen the bound with which the workers' shared one starts
  pub seen_start : (p : Workplace L A) → p.seat ≡ one_part r.seat → HasSeenStart d p
  seen_start p seat = ap (λ (s : SeatView). s.seen) seat ∙ room.least

  -- what is left
  pub room_after : (s : Rest L A) → IsOutside d.lock.place s.pass → view s.pass ≡ less_one (view r.pass) → s.share.parts + 1 ≡ r.share.parts → s.seat ≡ less_part r.seat → IsFor d.boxes s.hands → s.hands ≡ less_parts r.hands → parts_of s.hands ≡ map (λ n. n - 1) (parts_of r.hands) → HasSeatsLeft t log d left s
  room_after s outside pass share seat for hands parts = record {
    outside = outside;
    seen = record {
      task = ap (λ (v : View Task Kid). v.seen.task) pass ∙ room.seen.task;
      log = ap (λ (v : View Task Kid). v.seen.log) pass ∙ room.seen.log;
    };
    passes = omega (arith, ap (λ (v : View Task Kid). v.parts) pass, room.passes);
    shares = omega (arith, share, room.shares);
    seat = ap (λ (v : SeatView). v.of) seat ∙ room.seat;
    least = ap (λ (v : SeatView). v.seen) seat ∙ room.least;
    seats = omega (arith, ap (λ (v : SeatView). v.parts) seat, room.seats);
    hands = for;
    parcels = ap (λ (h : HandsView Task ParcelView). h.of) hands ∙ room.parcels;
    many = subst (AllByRecursion (λ k. left < k)) (sym parts) (all_less left (parts_of r.hands) room.many);
  }

-- there is room for as many places
pub room_for : {L A : Type 0} (t : Task) (log : List Kid) (d : Desk L A) (n m : ℕ) (r : Rest L A) → n ≡ m → HasSeatsLeft t log d n r → HasSeatsLeft t log d m r
room_for t log d n m r e room = subst (λ (k : ℕ). HasSeatsLeft t log d k r) e room
