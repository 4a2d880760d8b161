-- A parcel that came.
use Rattle.std.proofs.Common.{◌≡◌, ℕ, true, ap, ◌∙◌}
use Rattle.hd_task.specs.declared.task.Task.{Task}
use Rattle.hd_node.specs.Parcel.{ParcelView}
use Rattle.hd_desk.specs.Hands.{HandsView, taken_from}
use Rattle.hd_entries.specs.Holding.{parcel_of}
use Rattle.hd_turns.specs.Worker.{WorkerView}
use Rattle.hd_turns.specs.Calls.{with_parcel}
use Rattle.hd_threads.specs.Posting.{TakesParcel}

-- what came out of the mailbox is the last open node
pub taken_true :
    (from : ℕ) (hands : HandsView Task ParcelView) (w : WorkerView) (hands' : HandsView Task ParcelView) (w' : WorkerView) (p l : ParcelView)
    → hands' ≡ taken_from from l hands → p ≡ l → w' ≡ with_parcel (parcel_of p) w → TakesParcel from hands w hands' w' true
taken_true from hands w hands' w' p l took same opens = (l, took, opens ∙ ap (λ (x : ParcelView). with_parcel (parcel_of x) w) same)
