-- What every book keeps. (Our own.)
use Rattle.std.specs.Prelude.{◌≡◌, ◌≤◌, length, Option, Some, None}
use Rattle.std.specs.List.{AllByRecursion}
use Rattle.hd_entries.specs.Settling.{BookState}
use Rattle.hd_entries.specs.Holding.{settled_count}
use Rattle.hd_book.specs.declared.outgoing.Outgoing.{Outgoing}
use Rattle.hd_book.specs.Queue.{entries_in_all}
use Rattle.hd_book.specs.Releasing.{released_in}
use Rattle.hd_entries.specs.Releasing.{ParcelsView}
use Rattle.hd_book.specs.View.{BookView}

-- what a ticket releases that is out, of the entries with its numbers: just what these release
abbrev pub IsOutgoingIn : BookState → Option (Outgoing ParcelsView) → Type 0
IsOutgoingIn b None = Unit {0}
IsOutgoingIn b (Some o) = (o.first ≤ o.end) × (o.end ≤ length b.entries) × (o.released ≡ released_in b.task b.entries o.first o.end)

-- what every book keeps
pub record IsBookHeld (b : BookView) : Type 0 where
  -- the batches have the entries, after those that are acknowledged
  pub counted : entries_in_all b.batches.queue ≡ length b.state.entries
  -- what tickets release is what their entries release
  pub released : AllByRecursion (IsOutgoingIn b.state) b.batches.tickets
  -- each batch has settled a successor
  pub commits : length b.batches.tickets ≤ settled_count b.state
