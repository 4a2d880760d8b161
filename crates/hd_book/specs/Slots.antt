-- The tickets by number, in memory. (Our own.)
use Rattle.std.specs.Prelude.{ℕ, Bool, List, ◌++◌, Option, None, replicate, slice_get}
use Rattle.std.specs.Option.{option_flatten}
use Rattle.hd_book.specs.declared.outgoing.Outgoing.{Outgoing}

-- the tickets by number, none where one is spent, and whether there is memory for one more
pub record Slotted (R : Type 0) : Type 0 where
  pub tickets : List (Option (Outgoing R))
  pub room : Bool

-- the first tickets are spent, and the others are in slots
abbrev pub tickets_in : {R : Type 0} → ℕ → List (Option (Outgoing R)) → List (Option (Outgoing R))
tickets_in spent slots = replicate spent None ++ slots

-- the ticket with this number, if it is out
abbrev pub ticket_at : {R : Type 0} → List (Option (Outgoing R)) → ℕ → Option (Outgoing R)
ticket_at tickets number = option_flatten (slice_get tickets number)
