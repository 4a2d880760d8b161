-- The groups in which a book's entries are appended to a journal. (Our own.)
use Rattle.std.specs.Prelude.{ℕ, ◌+◌, ◌-◌, Bool, true, false, ◌&&◌, List, [], ◌∷◌, length, take, drop, Option, Some, None, option_map}
use Rattle.std.specs.declared.ops.Range.{Range}
use Rattle.hd_task.specs.declared.plan.Kid.{Kid}
use Rattle.hd_tables.specs.Kids.{same_kid}
use Rattle.hd_journal.specs.Group.{GroupView}
use Rattle.hd_book.specs.Queue.{group_next, is_out}
use Rattle.hd_book.specs.View.{BookView}

-- the entries from `first` on and below `end`
abbrev pub entries_between : List Kid → ℕ → ℕ → List Kid
entries_between entries first end = take (end - first) (drop first entries)

-- the group of entries with these numbers
abbrev pub group_of : List Kid → Range ℕ → GroupView
group_of entries g = record { first = g.start; kids = entries_between entries g.start g.end }

-- the group that goes out next: whole batches from the oldest on, as many as fit together; none
-- if nothing waits or a group is out
abbrev pub next_group : BookView → Option GroupView
next_group b = option_map (group_of b.state.entries) (group_next b.batches.queue)

-- an entry, if there is one, is this successor
abbrev pub is_kid : Kid → Option Kid → Bool
is_kid k None = false
is_kid k (Some e) = same_kid k e

-- a list begins with these successors
abbrev pub begins_with : List Kid → List Kid → Bool
begins_with [] entries = true
begins_with (k ∷ kids) [] = false
begins_with (k ∷ kids) (e ∷ entries) = same_kid k e && begins_with kids entries

-- a group is the one that is out: its pairs are those of the entries with its numbers, and these
-- are the ones that are out
abbrev pub is_group_out : BookView → GroupView → Bool
is_group_out b g = begins_with g.kids (drop g.first b.state.entries) && is_out b.batches.queue g.first (g.first + length g.kids)
