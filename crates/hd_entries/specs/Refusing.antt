-- When a batch is refused. (Our own.)
use Rattle.std.specs.Prelude.{◌≡◌, ◌+◌, Bool, true, not, nat_le, if◌then◌else◌, List, [], flat_map, length, Option, Some, ◌⊎◌}
use Rattle.hd_node.specs.declared.batch.Outcome.{Outcome}
use Rattle.hd_entries.specs.declared.refusal.Refusal.{Refusal}
use Rattle.hd_entries.specs.declared.refusal.Refusal.TheVariants.{Full, NoMemory}
use Rattle.hd_entries.specs.Settling.{entry_of, first_refusal}
use Rattle.hd_entries.specs.Holding.{EntriesView}

-- there is room for the entries of outcomes: with them there are no more than there may be
abbrev pub has_room : EntriesView → List Outcome → Bool
has_room b outcomes = nat_le (length b.state.entries + length (flat_map entry_of outcomes)) b.most

-- why a batch is refused, memory aside
abbrev pub refusal_to : EntriesView → List Outcome → Option Refusal
refusal_to b outcomes = if not (has_room b outcomes) then Some Full else first_refusal b.state [] outcomes

-- a refusal is the one of the batch; or lack of memory, which never stands for the first: there is
-- room
abbrev pub IsRefusalTo : EntriesView → List Outcome → Refusal → Type 0
IsRefusalTo b outcomes r = ((r ≡ NoMemory) × (has_room b outcomes ≡ true)) ⊎ (refusal_to b outcomes ≡ Some r)
