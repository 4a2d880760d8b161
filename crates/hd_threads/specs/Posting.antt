-- What a worker sends and takes. (The messages of HDA*, Kishimoto, Fukunaga and Botea 2013.)
use Rattle.std.specs.Prelude.{◌≡◌, ℕ, ◌≤◌, ◌%◌, Bool, true, false, [], slice_get, Some}
use Rattle.hd_task.specs.declared.task.Task.{Task}
use Rattle.hd_zobrist.specs.declared.owners.TheConstants.{MAX_WORKERS}
use Rattle.hd_zobrist.specs.Hash.{state_hash}
use Rattle.hd_node.specs.Parcel.{ParcelView}
use Rattle.hd_entries.specs.Holding.{parcel_of}
use Rattle.hd_desk.specs.Hands.{HandsView, put_into, taken_from}
use Rattle.hd_turns.specs.Worker.{WorkerView}
use Rattle.hd_turns.specs.Calls.{with_parcel, after_sending, after_return}
use Rattle.hd_threads.specs.declared.posting.Sending.{Sending}
use Rattle.hd_threads.specs.declared.posting.Sending.TheVariants.{Sent, Full, Empty}

-- there are some workers, no more than there may be, and a mailbox for each
pub record HaveBoxes (workers boxes : ℕ) : Type 0 where
  pub some : 1 ≤ workers
  pub most : workers ≤ MAX_WORKERS
  pub each : workers ≤ boxes

-- what became of the first parcel of a worker's outbox, if there are so many workers: it is in
-- the mailbox of its state's owner; it is the first again, and nothing is in a mailbox that was
-- not; or there is none
abbrev pub HasSent : ℕ → HandsView Task ParcelView → WorkerView → HandsView Task ParcelView → WorkerView → Sending → Type 0
HasSent workers hands w hands' w' Sent =
    (p : ParcelView) × (slice_get w.outbox 0 ≡ Some (parcel_of p)) × (hands' ≡ put_into (state_hash p.state % workers) p hands) × (w' ≡ after_sending w)
HasSent workers hands w hands' w' Full =
    (p : ParcelView) × (slice_get w.outbox 0 ≡ Some (parcel_of p)) × (hands' ≡ hands) × (w' ≡ after_return (parcel_of p) (after_sending w))
HasSent workers hands w hands' w' Empty = (w.outbox ≡ []) × (hands' ≡ hands) × (w' ≡ w)

-- a parcel of this mailbox is a worker's last open node; or there was none
abbrev pub TakesParcel : ℕ → HandsView Task ParcelView → WorkerView → HandsView Task ParcelView → WorkerView → Bool → Type 0
TakesParcel from hands w hands' w' true = (p : ParcelView) × (hands' ≡ taken_from from p hands) × (w' ≡ with_parcel (parcel_of p) w)
TakesParcel from hands w hands' w' false = (hands' ≡ hands) × (w' ≡ w)

-- one parcel of this mailbox is taken from it
abbrev pub LosesParcel : ℕ → HandsView Task ParcelView → HandsView Task ParcelView → Type 0
LosesParcel from hands hands' = (p : ParcelView) × (hands' ≡ taken_from from p hands)
