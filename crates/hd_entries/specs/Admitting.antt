-- How a batch is judged: outcome by outcome, and each successor is marked before the next outcome
-- is judged. (Our own.)
use Rattle.std.specs.Prelude.{◌≡◌, ℕ, ◌≤◌, Bool, not, if◌then◌else◌, List, [], ◌∷◌, ◌++◌, length, flat_map, Option, Some, None, ◌⊎◌}
use Rattle.std.specs.Option.{option_or}
use Rattle.hd_tables.specs.Kids.{KidsView}
use Rattle.hd_node.specs.Outcome.{kid_of}
use Rattle.hd_node.specs.declared.batch.Outcome.{Outcome}
use Rattle.hd_entries.specs.declared.refusal.Refusal.{Refusal}
use Rattle.hd_entries.specs.declared.refusal.Refusal.TheVariants.{UnknownParent, NotAKid, SettledBefore, NoMemory}
use Rattle.hd_entries.specs.declared.content.EntriesContent.{EntriesContent}
use Rattle.hd_entries.specs.Settling.{BookState, knows_parent, place_of, is_posted, is_marked, refusal_by, with_mark, entry_of}
use Rattle.hd_entries.specs.Growing.{successor_count}

-- why an outcome is refused, where the successors of the earlier outcomes of its batch are marked
abbrev pub refusal_at : BookState → List Outcome → Outcome → Option Refusal
refusal_at b earlier o =
    if not (knows_parent b (kid_of o)) then Some UnknownParent
    else if not (is_posted b (kid_of o)) then Some NotAKid
    else if is_marked b (kid_of o) then Some SettledBefore
    else refusal_by b earlier o

-- an outcome is right, and its successor stands at this place
pub record IsRight (b : BookState) (earlier : List Outcome) (o : Outcome) (place : ℕ) : Type 0 where
  pub nothing : refusal_at b earlier o ≡ None
  pub stands : place ≡ place_of b (kid_of o)

-- an outcome is refused, or there is no memory to judge it
abbrev pub IsWrong : BookState → List Outcome → Outcome → Refusal → Type 0
IsWrong b earlier o r = (r ≡ NoMemory) ⊎ (refusal_at b earlier o ≡ Some r)

-- the book with the mark of an outcome's successor
abbrev pub marked : BookState → Outcome → BookState
marked b o = record { task = b.task; entries = b.entries; marks = with_mark b (kid_of o) }

-- the first refusal of outcomes, where each successor is marked before the next one is judged
abbrev pub first_wrong : BookState → List Outcome → List Outcome → Option Refusal
first_wrong b earlier [] = None
first_wrong b earlier (o ∷ later) = option_or (refusal_at b earlier o) (first_wrong (marked b o) (earlier ++ o ∷ []) later)

-- the marks after the successors of outcomes are marked
abbrev pub marks_after : BookState → List Outcome → List Bool
marks_after b [] = b.marks
marks_after b (o ∷ outcomes) = marks_after (marked b o) outcomes

-- the table with other marks
abbrev pub with_marks : KidsView → List Bool → KidsView
with_marks table marks = record {
  kids = table.kids;
  marks = marks;
  entries = table.entries;
  entry_room = table.entry_room;
  kid_room = table.kid_room;
}

-- the parts are as they were, but for the marks and the room that there is
pub record SameButMarks (c d : EntriesContent) : Type 0 where
  pub task : d.expanded.task.now ≡ c.expanded.task.now
  pub entries : d.expanded.entries.items ≡ c.expanded.entries.items
  pub best : d.expanded.best ≡ c.expanded.best
  pub departure : d.expanded.departure ≡ c.expanded.departure
  pub posted : d.kids.kids ≡ c.kids.kids
  pub entered : d.kids.entries ≡ c.kids.entries
  pub most : d.most ≡ c.most

-- there is room for what outcomes add: entries and successors
pub record HasRoomFor (c : EntriesContent) (outcomes : List Outcome) : Type 0 where
  pub entries : length (flat_map entry_of outcomes) ≤ c.expanded.entries.room
  pub entered : length (flat_map entry_of outcomes) ≤ c.kids.entry_room
  pub kids : successor_count outcomes ≤ c.kids.kid_room
