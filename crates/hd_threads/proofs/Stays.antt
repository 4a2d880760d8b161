-- What a worker keeps while it sends, takes, settles and commits.
use Rattle.std.proofs.Common.{◌≡◌, ℕ, ◌+◌, Bool, true, false, Option, Some, None, Result, Ok, Err, List, [], refl, sym, ap, subst}
use Rattle.std.specs.Prelude.{IfOk, OnOk, OnErr, slice_get}
use Rattle.hd_task.specs.declared.task.Task.{Task}
use Rattle.hd_task.specs.declared.plan.Kid.{Kid}
use Rattle.hd_task.specs.Covers.{Estimate}
use Rattle.hd_hmax.specs.Rounds.{hmax}
use Rattle.hd_node.specs.Parcel.{ParcelView}
use Rattle.hd_desk.specs.Hands.{HandsView}
use Rattle.hd_entries.specs.Growing.{successor_count}
use Rattle.hd_entries.specs.Holding.{Released}
use Rattle.hd_book.specs.Batches.{TicketView}
use Rattle.hd_desk.specs.Bound.{SeatView}
use Rattle.hd_turns.specs.Worker.{WorkerView}
use Rattle.hd_turns.specs.Calls.{batch_of, ExpandsTo, ExpandsBest, AtBest, AtNone}
use Rattle.hd_threads.specs.declared.posting.Sending.{Sending}
use Rattle.hd_threads.specs.declared.posting.Sending.TheVariants.{Sent, Full, Empty}
use Rattle.hd_threads.specs.declared.working.Held.{Held}
use Rattle.hd_threads.specs.declared.working.Redemption.{Redemption}
use Rattle.hd_threads.specs.declared.working.Redemption.TheVariants.{Opened, Waiting, Void}
use Rattle.hd_threads.specs.Posting.{HasSent, TakesParcel}
use Rattle.hd_threads.specs.Working.{HasRedeemed, IsBatchIn}

-- the worker has the same task, is numbered as before, and has as much room
pub record Stays (w w' : WorkerView) : Type 0 where
  pub task : w'.task ≡ w.task
  pub given : w'.given ≡ w.given
  pub room : w'.room ≡ w.room

pub stays_same : (w w' : WorkerView) → w' ≡ w → Stays w w'
stays_same w w' e = subst (Stays w) (sym e) (record { task = refl; given = refl; room = refl })

pub sent_stays : (n : ℕ) (h : HandsView Task ParcelView) (w : WorkerView) (h' : HandsView Task ParcelView) (w' : WorkerView) (s : Sending) → HasSent n h w h' w' s → Stays w w'
sent_stays n h w h' w' Sent x = subst (Stays w) (sym x.3) (record { task = refl; given = refl; room = refl })
sent_stays n h w h' w' Full x = subst (Stays w) (sym x.3) (record { task = refl; given = refl; room = refl })
sent_stays n h w h' w' Empty x = stays_same w w' x.2

taken_stays : (n : ℕ) (h : HandsView Task ParcelView) (w : WorkerView) (h' : HandsView Task ParcelView) (w' : WorkerView) (b : Bool) → TakesParcel n h w h' w' b → Stays w w'
taken_stays n h w h' w' true x = subst (Stays w) (sym x.2) (record { task = refl; given = refl; room = refl })
taken_stays n h w h' w' false x = stays_same w w' x.1

pub take_stays :
    {E : Type 0} (n : ℕ) (h : HandsView Task ParcelView) (w : WorkerView) (h' : HandsView Task ParcelView) (w' : WorkerView) (r : Result Bool E) → IfOk r (TakesParcel n h w h' w')
    → OnErr r (w' ≡ w) → Stays w w'
take_stays n h w h' w' (Ok b) ok err = taken_stays n h w h' w' b ok
take_stays n h w h' w' (Err e) ok err = stays_same w w' err

expands_to : (t : Task) (h : Estimate) (pick : ℕ) (w w' : WorkerView) (r : Option Released) → ExpandsTo t h pick w r w' → Stays w w'
expands_to t h pick w w' None x = stays_same w w' x
expands_to t h pick w w' (Some r) x = subst (Stays w) (sym x.2) (record { task = refl; given = refl; room = refl })

expands_best : (t : Task) (w w' : WorkerView) → ExpandsBest t w w' → Stays w w'
expands_best t w w' (AtBest pick best x) = expands_to t (hmax t) pick w w' (slice_get w.waiting pick) x
expands_best t w w' (AtNone none x) = stays_same w w' x

pub settle_stays : {E X : Type 0} (t : Task) (w w' : WorkerView) (r : Result X E) → OnOk r (ExpandsBest t w w') → OnErr r (w' ≡ w) → Stays w w'
settle_stays t w w' (Ok x) ok err = expands_best t w w' ok
settle_stays t w w' (Err e) ok err = stays_same w w' err

-- what a ticket was redeemed for changes neither the task nor the numbers
redeemed_task : (log : List Kid) (h : Held) (w w' : WorkerView) (r : Redemption) → HasRedeemed log h w w' r → w'.task ≡ w.task
redeemed_task log h w w' Opened x = ap (λ (v : WorkerView). v.task) x.opens
redeemed_task log h w w' (Waiting again) x = ap (λ (v : WorkerView). v.task) x.0
redeemed_task log h w w' Void x = ap (λ (v : WorkerView). v.task) x.0

redeemed_given : (log : List Kid) (h : Held) (w w' : WorkerView) (r : Redemption) → HasRedeemed log h w w' r → w'.given ≡ w.given
redeemed_given log h w w' Opened x = ap (λ (v : WorkerView). v.given) x.opens
redeemed_given log h w w' (Waiting again) x = ap (λ (v : WorkerView). v.given) x.0
redeemed_given log h w w' Void x = ap (λ (v : WorkerView). v.given) x.0

pub redeem_task :
    {E : Type 0} (log : List Kid) (h : Held) (w w' : WorkerView) (r : Result Redemption E) → IfOk r (HasRedeemed log h w w') → OnErr r (w' ≡ w) → w'.task ≡ w.task
redeem_task log h w w' (Ok r) ok err = redeemed_task log h w w' r ok
redeem_task log h w w' (Err e) ok err = ap (λ (v : WorkerView). v.task) err

pub redeem_given :
    {E : Type 0} (log : List Kid) (h : Held) (w w' : WorkerView) (r : Result Redemption E) → IfOk r (HasRedeemed log h w w') → OnErr r (w' ≡ w) → w'.given ≡ w.given
redeem_given log h w w' (Ok r) ok err = redeemed_given log h w w' r ok
redeem_given log h w w' (Err e) ok err = ap (λ (v : WorkerView). v.given) err

-- a worker that has the batch that it gave last numbered
pub batch_numbered :
    (before : List Kid) (count : ℕ) (seat : SeatView) (w : WorkerView) (after : List Kid) (count' : ℕ) (seat' : SeatView) (w' : WorkerView) (k : TicketView)
    → IsBatchIn before count seat w after count' seat' w' k → w'.given ≡ []
batch_numbered before count seat w after count' seat' w' k x = ap (λ (v : WorkerView). v.given) x.numbered

pub batch_room :
    (before : List Kid) (count : ℕ) (seat : SeatView) (w : WorkerView) (after : List Kid) (count' : ℕ) (seat' : SeatView) (w' : WorkerView) (k : TicketView)
    → IsBatchIn before count seat w after count' seat' w' k → w'.room ≡ w.room + successor_count (batch_of w)
batch_room before count seat w after count' seat' w' k x = ap (λ (v : WorkerView). v.room) x.numbered
