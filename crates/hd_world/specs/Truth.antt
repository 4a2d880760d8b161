-- When all that a running search holds is true of its book. (Our own.)
use Rattle.std.specs.Prelude.{◌≡◌, ◌<◌, Option, Some, None}
use Rattle.std.specs.List.{AllByRecursion}
use Rattle.hd_task.specs.declared.task.Task.{Task}
use Rattle.hd_task.specs.declared.plan.TheConstants.{ROOT_PARENT}
use Rattle.hd_entries.specs.Settling.{BookState, IsBookKept}
use Rattle.hd_entries.specs.Holding.{Released}
use Rattle.hd_book.specs.declared.outgoing.Outgoing.{Outgoing}
use Rattle.hd_entries.specs.Releasing.{ParcelsView}
use Rattle.hd_turns.specs.Truth.{IsTrueParcel, IsTrueWorker, IsSeenOf}
use Rattle.hd_world.specs.Seats.{Seat, Run}

-- a parcel is true of a book, if there is one
abbrev pub IfTrueOf : BookState → Option Released → Type 0
IfTrueOf b None = Unit {0}
IfTrueOf b (Some p) = IsTrueParcel b p

-- what a ticket releases is true of a book, if it is out
abbrev pub IsTrueOut : BookState → Option (Outgoing ParcelsView) → Type 0
IsTrueOut b None = Unit {0}
IsTrueOut b (Some o) = AllByRecursion (IsTrueParcel b) o.released.kids

-- what a worker holds, the parcel in its hand and the bound that it was told are true of a book
pub record IsTrueSeat (b : BookState) (s : Seat) : Type 0 where
  pub worker : IsTrueWorker b s.worker
  pub hand : IfTrueOf b s.hand
  pub told : IsSeenOf b s.told

-- The book of a running search is of a task and kept, and may not hold so many entries that there
-- is no number for one. What its workers hold, the parcels on their way, what the tickets
-- release, and the bound that the workers share are true of it.
pub record IsTrueRun (t : Task) (r : Run) : Type 0 where
  pub of_task : r.book.state.task ≡ t
  pub kept : IsBookKept r.book.state
  pub numbered : r.book.most < ROOT_PARENT
  pub seats : AllByRecursion (IsTrueSeat r.book.state) r.seats
  pub mailboxes : AllByRecursion (AllByRecursion (IsTrueParcel r.book.state)) r.mailboxes
  pub tickets : AllByRecursion (IsTrueOut r.book.state) r.book.batches.tickets
  pub bound : IsSeenOf r.book.state r.bound
