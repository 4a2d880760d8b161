-- What is redeemed is what the entries of the ticket release. (Our own.)
use Rattle.std.specs.Prelude.{◌≡◌}
use Rattle.hd_task.specs.declared.task.Task.{Task}
use Rattle.hd_entries.specs.Settling.{BookState}
use Rattle.hd_book.specs.declared.redeemed.Redeemed.{Redeemed}
use Rattle.hd_book.specs.declared.redeemed.Redeemed.TheVariants.{Released, NotYet, Void}
use Rattle.hd_book.specs.Batches.{TicketView}
use Rattle.hd_book.specs.Releasing.{released_in}
use Rattle.hd_entries.specs.Releasing.{ParcelsView}

-- what is released, if anything is, is of a task
abbrev pub IsReleasedOf : Task → Redeemed ParcelsView → Type 0
IsReleasedOf t (Released receipt parcels) = parcels.task ≡ t
IsReleasedOf t (NotYet ticket) = Unit {0}
IsReleasedOf t Void = Unit {0}

-- what is released for a ticket, if anything is, is just what the entries with its numbers release
abbrev pub IsReleasedIn : BookState → TicketView → Redeemed ParcelsView → Type 0
IsReleasedIn b k (Released receipt parcels) = parcels ≡ released_in b.task b.entries k.first k.end
IsReleasedIn b k (NotYet ticket) = Unit {0}
IsReleasedIn b k Void = Unit {0}
