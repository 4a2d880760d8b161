-- What a worker does under the lock, and beside it. (The search is HDA*, Kishimoto, Fukunaga and
-- Botea 2013.)
use Rattle.std.specs.Prelude.{◌≡◌, ℕ, ◌+◌, ◌≤◌, List, [], ◌∷◌, ◌++◌, length, flat_map, unwrap_or, Option, Some, None}
use Rattle.hd_task.specs.declared.task.Task.{Task}
use Rattle.hd_task.specs.declared.plan.Kid.{Kid}
use Rattle.hd_task.specs.Entries.{plans_of}
use Rattle.hd_task.specs.Expansions.{bound_of}
use Rattle.hd_node.specs.declared.batch.Outcome.{Outcome}
use Rattle.hd_desk.specs.Bound.{SeatView}
use Rattle.hd_base.specs.Lists.{BeginsWith}
use Rattle.hd_entries.specs.declared.refusal.Refusal.{Refusal}
use Rattle.hd_entries.specs.declared.refusal.Refusal.TheVariants as refusals
use Rattle.hd_entries.specs.Settling.{entry_of}
use Rattle.hd_entries.specs.Growing.{successor_count}
use Rattle.hd_book.specs.Batches.{TicketView}
use Rattle.hd_book.specs.Releasing.{released_in}
use Rattle.hd_entries.specs.Releasing.{ParcelsView}
use Rattle.hd_turns.specs.Worker.{WorkerView}
use Rattle.hd_turns.specs.Calls.{batch_of, after_batch, after_numbering, after_releasing}
use Rattle.hd_threads.specs.declared.fault.RunFault.{RunFault}
use Rattle.hd_threads.specs.declared.fault.RunFault.TheVariants.{Full, NotOut, NoMemory}
use Rattle.hd_threads.specs.declared.shared.Given.TheVariants as given
use Rattle.hd_threads.specs.declared.shared.Given.TheVariants.{Parcels}
use Rattle.hd_threads.specs.declared.working.Held.{Held}
use Rattle.hd_threads.specs.Tally.{tally_of}
use Rattle.hd_threads.specs.declared.working.Committed.{Committed}
use Rattle.hd_threads.specs.declared.working.Committed.TheVariants.{Taken, Halted, Idle}
use Rattle.hd_threads.specs.declared.working.Redemption.{Redemption}
use Rattle.hd_threads.specs.declared.working.Redemption.TheVariants.{Opened, Waiting, Void}
use Rattle.hd_threads.specs.Shared.{IsGivenBy}

-- what is reported of why the entries refuse a batch: for want of room or of memory, or for what it
-- says
abbrev pub run_fault_of_refusal : Refusal → RunFault
run_fault_of_refusal refusals.Full = Full
run_fault_of_refusal refusals.NoMemory = NoMemory
run_fault_of_refusal refusals.UnknownParent = NotOut
run_fault_of_refusal refusals.NotAKid = NotOut
run_fault_of_refusal refusals.SettledBefore = NotOut
run_fault_of_refusal refusals.StateDiffers = NotOut
run_fault_of_refusal refusals.NotDominated = NotOut
run_fault_of_refusal refusals.BelowBound = NotOut

-- the bound of the plans that a log's entries name
abbrev pub bound_by : Task → List Kid → Option ℕ
bound_by t log = bound_of t (unwrap_or (plans_of log) [])

-- a bound is that of a log, which is of a task
abbrev pub IsBoundBy : Option Task → List Kid → Option ℕ → Type 0
IsBoundBy None log bound = ⊥
IsBoundBy (Some t) log bound = bound ≡ bound_by t log

-- a batch of these outcomes came into the book of a task: after a log that began with what was
-- seen before, of so many entries, the log has now its expansions, and nothing else; and this is
-- the bound of all
pub record EntersBook (task : Option Task) (before : List Kid) (outcomes : List Outcome) (after : List Kid) (first : ℕ) (bound : Option ℕ) : Type 0 where
  pub earlier : List Kid
  pub begins : BeginsWith earlier before
  pub number : first ≡ length earlier
  pub gains : after ≡ earlier ++ flat_map entry_of outcomes
  pub least : IsBoundBy task after bound

-- a bound is offered, if there is one
abbrev pub with_offer : Option ℕ → List ℕ → List ℕ
with_offer None offers = offers
with_offer (Some cost) offers = offers ++ cost ∷ []

-- a seat is at the same bound word, with as many parts, and has seen no greater bound than before
pub record KeepsSeat (old new : SeatView) : Type 0 where
  pub of : new.of ≡ old.of
  pub parts : new.parts ≡ old.parts
  pub seen : new.seen ≤ old.seen

-- a worker's next batch is in the book: its expansions have the numbers after those of earlier
-- entries, its ticket names just these, and the bound is offered
pub record IsBatchIn (before : List Kid) (count : ℕ) (seat : SeatView) (w : WorkerView) (after : List Kid) (count' : ℕ) (seat' : SeatView) (w' : WorkerView) (ticket : TicketView) : Type 0 where
  pub first : ℕ
  pub bound : Option ℕ
  pub is : EntersBook (Some w.task) before (batch_of w) after first bound
  pub from : ticket.first ≡ first
  pub to : ticket.end ≡ length after
  pub numbered : w' ≡ after_numbering first (after_batch w)
  pub counted : count' ≡ count + 1
  pub offered : seat'.offers ≡ with_offer bound seat.offers

-- what became of it: it is in the book, there is room for what it releases, and each of its nodes
-- is counted by what became of it; the book refused it; or there was none
abbrev pub HasCommitted : List Kid → ℕ → SeatView → WorkerView → List Kid → ℕ → SeatView → WorkerView → Committed → Type 0
HasCommitted before count seat w after count' seat' w' (Taken held) = IsBatchIn before count seat w after count' seat' w' held.ticket × (held.kids ≡ successor_count (batch_of w)) × (held.tally ≡ tally_of (batch_of w))
HasCommitted before count seat w after count' seat' w' Halted = (count' ≡ count) × (seat' ≡ seat)
HasCommitted before count seat w after count' seat' w' Idle = (w.outcomes ≡ []) × (w' ≡ w) × (after ≡ before) × (count' ≡ count) × (seat' ≡ seat)

-- what a ticket releases came to the worker: the book has given it, with this log, it is no more
-- than is held, and it is just what the entries of the ticket release
pub record HasReleased (log : List Kid) (held : Held) (w w' : WorkerView) : Type 0 where
  pub parcels : ParcelsView
  pub given : IsGivenBy (Some w.task) log held.ticket (Parcels parcels)
  pub few : length parcels.kids ≤ held.kids
  pub released : parcels ≡ released_in w.task log held.ticket.first held.ticket.end
  pub opens : w' ≡ after_releasing parcels.kids w

-- what became of a ticket, with this log in the lock: what it releases came to the worker; it
-- waits, as it was; or the book gives nothing for it
abbrev pub HasRedeemed : List Kid → Held → WorkerView → WorkerView → Redemption → Type 0
HasRedeemed log held w w' Opened = HasReleased log held w w'
HasRedeemed log held w w' (Waiting again) = (w' ≡ w) × (again ≡ held)
HasRedeemed log held w w' Void = (w' ≡ w) × IsGivenBy (Some w.task) log held.ticket given.Void

-- a ticket that waits does so by what a book of this task with this log gives for it; of the other
-- answers nothing is said here
abbrev pub IsAsked : Option Task → List Kid → Held → Redemption → Type 0
IsAsked task log held Opened = Unit {0}
IsAsked task log held (Waiting again) = IsGivenBy task log held.ticket (given.NotYet held.ticket)
IsAsked task log held Void = Unit {0}
