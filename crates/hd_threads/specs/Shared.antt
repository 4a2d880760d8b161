-- What passes between the book that threads share and the journal after it. (Our own.)
use Rattle.std.specs.Prelude.{◌≡◌, ℕ, List, drop, Option, Some, Result, Ok, Err}
use Rattle.hd_task.specs.declared.plan.Kid.{Kid}
use Rattle.hd_task.specs.declared.task.Task.{Task}
use Rattle.hd_base.specs.Lists.{BeginsWith}
use Rattle.hd_journal.specs.Group.{GroupView}
use Rattle.hd_book.specs.declared.not_out.NotOut.{NotOut}
use Rattle.hd_book.specs.declared.redeemed.Redeemed.{Redeemed}
use Rattle.hd_book.specs.declared.redeemed.Redeemed.TheVariants as redeemed
use Rattle.hd_book.specs.Batches.{TicketView}
use Rattle.hd_book.specs.Releasing.{released_in}
use Rattle.hd_book.specs.TicketRedeeming.{redeemed_for}
use Rattle.hd_entries.specs.Releasing.{ParcelsView}
use Rattle.hd_book.specs.View.{BookView}
use Rattle.hd_threads.specs.declared.shared.Given.{Given}
use Rattle.hd_threads.specs.declared.shared.Given.TheVariants.{Parcels, NotYet, Void}

-- a book has become a later one: it is of the same task, and its log begins with the earlier one
pub record GoesOn (old new : BookView) : Type 0 where
  pub task : new.state.task ≡ old.state.task
  pub begins : BeginsWith new.state.entries old.state.entries

-- a group begins at this number, and a log has its pairs from there on
pub record IsGroupAt (log : List Kid) (first : ℕ) (g : GroupView) : Type 0 where
  pub begins : g.first ≡ first
  pub has : BeginsWith (drop first log) g.kids

-- what is given for a ticket is of a task
abbrev pub IsGivenOf : Task → Given → Type 0
IsGivenOf t (Parcels parcels) = parcels.task ≡ t
IsGivenOf t (NotYet ticket) = Unit {0}
IsGivenOf t Void = Unit {0}

-- what is given where a book redeems a ticket for this: what it releases, the ticket again, or
-- nothing; or it is not out
abbrev pub given_by : Result (Redeemed ParcelsView) NotOut → Result Given NotOut
given_by (Ok (redeemed.Released receipt parcels)) = Ok (Parcels parcels)
given_by (Ok (redeemed.NotYet ticket)) = Ok (NotYet ticket)
given_by (Ok redeemed.Void) = Ok Void
given_by (Err error) = Err error

-- what is given for a ticket is just what the entries of a log with its numbers release, where it
-- is given
abbrev pub IsGivenFrom : Task → List Kid → TicketView → Given → Type 0
IsGivenFrom t log ticket (Parcels parcels) = parcels ≡ released_in t log ticket.first ticket.end
IsGivenFrom t log ticket (NotYet again) = Unit {0}
IsGivenFrom t log ticket Void = Unit {0}

-- the book of this task with this log, as it lay in the lock, has given this for a ticket: nothing
-- but what the ticket's entries release
pub record IsGivenBy (task : Option Task) (log : List Kid) (ticket : TicketView) (given : Given) : Type 0 where
  pub book : BookView
  pub of_task : task ≡ Some book.state.task
  pub has : log ≡ book.state.entries
  pub is : Ok given ≡ given_by (redeemed_for book.batches ticket)
  pub released : IsGivenFrom book.state.task log ticket given

-- what is given for a ticket, with this log in the lock: a ticket that waits comes back, whether or
-- not the book was asked
abbrev pub IsGivenIn : Option Task → List Kid → TicketView → Given → Type 0
IsGivenIn task log ticket (Parcels parcels) = IsGivenBy task log ticket (Parcels parcels)
IsGivenIn task log ticket (NotYet again) = again ≡ ticket
IsGivenIn task log ticket Void = IsGivenBy task log ticket Void
