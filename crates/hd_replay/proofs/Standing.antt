-- What is known of a seat and of a mailbox of a run that is sound.
use Rattle.std.proofs.Common.{◌≡◌, ℕ, ◌<◌, ◌≤◌, Some, List, [], map, set, length, get_or, slice_get, refl, sym, ap, ◌∙◌, subst}
use Rattle.std.specs.Prelude.{option_map}
use Rattle.std.specs.List.{AllByRecursion}
use Rattle.std.proofs.lemmas.List.{map-set, length-map, length-set}
use Rattle.std.proofs.lemmas.Option.{slice_get_read, slice_get-map}
use Rattle.hd_base.proofs.Lists.{AllByRecursion-slice_get}
use Rattle.hd_task.specs.declared.task.Task.{Task}
use Rattle.hd_task.specs.declared.plan.TheConstants.{ROOT_PARENT}
use Rattle.hd_zobrist.specs.declared.owners.TheConstants.{MAX_WORKERS}
use Rattle.hd_node.specs.Parcel.{ParcelView}
use Rattle.hd_world.specs.Seats.{Seat, Run}
use Rattle.hd_world.specs.Truth.{IsTrueSeat}
use Rattle.hd_world.specs.Order.{HasRoomForTickets}
use Rattle.hd_world.proofs.Lists.{AllByRecursion-set}
use Rattle.hd_replay.specs.Held.{AreParcelsOf, AreBoxesOf, IsSoundRun}

-- an element of a list that was read
pub read_at : {X : Type 0} (xs : List X) (k : ℕ) (x : X) → k < length xs → x ≡ get_or xs k x → slice_get xs k ≡ Some x
read_at xs k x within is = slice_get_read xs (length xs) k x refl within is

-- of a view that is a sound run's
module _ (v r : Run) (is : v ≡ r) (sound : IsSoundRun r) where
  sound_view : IsSoundRun v
  sound_view = subst IsSoundRun (sym is) sound

  seat_true : (k : ℕ) (s : Seat) → slice_get v.seats k ≡ Some s → IsTrueSeat v.book.state s
  seat_true k s e = AllByRecursion-slice_get (IsTrueSeat v.book.state) v.seats k s sound_view.1.truth.seats e

  pub seat_of_task : (k : ℕ) (s : Seat) → slice_get v.seats k ≡ Some s → s.worker.task ≡ v.book.state.task
  seat_of_task k s e = (seat_true k s e).worker.of_task

  pub seat_numbered : (k : ℕ) (s : Seat) → slice_get v.seats k ≡ Some s → s.worker.given ≡ []
  seat_numbered k s e = (seat_true k s e).worker.numbered

  pub seat_roomy : (k : ℕ) (s : Seat) → slice_get v.seats k ≡ Some s → HasRoomForTickets v.book s
  seat_roomy k s e = AllByRecursion-slice_get (HasRoomForTickets v.book) v.seats k s sound_view.1.rooms e

  pub book_numbered : v.book.most < ROOT_PARENT
  book_numbered = sound_view.1.truth.numbered

-- where the parcels in mailboxes are seen so
module _ {X : Type 0} (f : X → List ParcelView) (t : Task) (workers : ℕ) (boxes : List X) (all : AreBoxesOf t workers (map f boxes)) where
  pub box_of : (k : ℕ) (box : X) → slice_get boxes k ≡ Some box → AreParcelsOf t (f box)
  box_of k box e = AllByRecursion-slice_get (AreParcelsOf t) (map f boxes) k (f box) all.parcels (slice_get-map f boxes k ∙ ap (option_map f) e)

  -- each worker has one
  pub box_within : (k : ℕ) → k < workers → k < length boxes
  box_within k within = subst (λ n. k < n) (sym all.one_each ∙ length-map boxes f) within

  -- a mailbox in the place of another
  pub boxes_with : (workers' k : ℕ) (box : X) → workers' ≡ workers → AreParcelsOf t (f box) → AreBoxesOf t workers' (map f (set boxes k box))
  boxes_with workers' k box same one = record {
    parcels = subst (AllByRecursion (AreParcelsOf t)) (sym (map-set f boxes k box)) (AllByRecursion-set (AreParcelsOf t) (map f boxes) k (f box) all.parcels one);
    one_each = ap length (map-set f boxes k box) ∙ (length-set (map f boxes) k (f box) ∙ (all.one_each ∙ sym same));
    any = subst (λ n. 1 ≤ n) (sym same) all.any;
    few = subst (λ n. n ≤ MAX_WORKERS) (sym same) all.few;
  }

  -- the same mailboxes of another task and as many workers
  pub boxes_as : (t' : Task) (workers' : ℕ) → t' ≡ t → workers' ≡ workers → AreBoxesOf t' workers' (map f boxes)
  boxes_as t' workers' task same = subst (λ (x : Task). AreBoxesOf x workers' (map f boxes)) (sym task) (subst (λ n. AreBoxesOf t n (map f boxes)) (sym same) all)
