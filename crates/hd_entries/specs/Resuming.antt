-- What a list of entries is made into again, and what may be wrong with such a list. (Our own.)
use Rattle.std.specs.Prelude.{◌≡◌, ℕ, ◌<◌, ◌≤◌, ◌||◌, Bool, true, false, not, nat_lt, if◌then◌else◌, List, [], ◌∷◌, ◌++◌, map, take, length, slice_index_or, Option, Some, None, option_map, ◌⊎◌}
use Rattle.std.specs.List.{list_any, filter}
use Rattle.std.specs.Option.{option_or}
use Rattle.hd_task.specs.declared.task.Task.{Task}
use Rattle.hd_task.specs.declared.plan.Kid.{Kid}
use Rattle.hd_task.specs.Plans.{Node, exec, node}
use Rattle.hd_task.specs.Entries.{plans_of}
use Rattle.hd_task.specs.Expansions.{IsLegal}
use Rattle.hd_tables.specs.Kids.{root, same_kid}
use Rattle.hd_node.specs.Children.{ChildView}
use Rattle.hd_node.specs.Parcel.{ParcelView}
use Rattle.hd_entries.specs.declared.refusal.Refusal.{Refusal}
use Rattle.hd_entries.specs.declared.refusal.Refusal.TheVariants.{UnknownParent, NotAKid, SettledBefore, Full, NoMemory}
use Rattle.hd_entries.specs.Kids.{posted_by}
use Rattle.hd_entries.specs.Settling.{BookState, expansions, node_of}
use Rattle.hd_entries.specs.Holding.{EntriesView, plans_at}

-- a successor is among some
abbrev pub has : List Kid → Kid → Bool
has kids k = list_any (same_kid k) kids

-- why a successor can't be the next entry after these
abbrev pub fault_at : Task → List Kid → Kid → Option Refusal
fault_at t before k =
    if not (same_kid k root || nat_lt k.parent (length before)) then Some UnknownParent
    else if not (has (posted_by t (plans_at before)) k) then Some NotAKid
    else if has before k then Some SettledBefore
    else None

-- the first fault of entries that come after others: the number of the entry, and why it can't
-- stand there
abbrev pub first_fault : Task → List Kid → List Kid → Option (ℕ × Refusal)
first_fault t before [] = None
first_fault t before (k ∷ later) =
    option_or (option_map (λ (r : Refusal). (length before, r)) (fault_at t before k)) (first_fault t (before ++ k ∷ []) later)

-- entries name the plans of a legal list
abbrev pub AreLegal : Task → List Kid → Type 0
AreLegal t entries = (expanded : List (List ℕ)) × (plans_of entries ≡ Some expanded) × IsLegal t expanded

-- a search with exactly these entries: the successors that are entries are settled, and no other
abbrev pub resumed_state : Task → List Kid → BookState
resumed_state t entries = record { task = t; entries = entries; marks = map (has entries) (posted_by t (plans_at entries)) }

-- the same, if there may be so many entries
abbrev pub resumed : Task → ℕ → List Kid → EntriesView
resumed t most entries = record { state = resumed_state t entries; most = most }

-- the posted successors that are no entries, in posting order
abbrev pub open_kids : Task → List Kid → List Kid
open_kids t entries = filter (λ k. not (has entries k)) (posted_by t (plans_at entries))

-- where the plans of entries lead, in order
abbrev pub entry_nodes : BookState → List (Option Node)
entry_nodes b = map (exec b.task) (expansions b)

-- where the posted successors lead, in posting order
abbrev pub posted_nodes : BookState → List (Option Node)
posted_nodes b = map (node_of b) (posted_by b.task (expansions b))

-- where a child leads
abbrev pub child_node : ChildView → Option Node
child_node c = Some (node c.state c.cost)

-- a search has one entry more, which leads to a node, and posts children
pub record IsEntered (b : BookState) (r : Node) (children : List ChildView) (after : BookState) : Type 0 where
  pub leads : entry_nodes after ≡ entry_nodes b ++ Some r ∷ []
  pub posts : posted_nodes after ≡ posted_nodes b ++ map child_node children

-- a parcel is of a search's task, and says of its successor where that leads
pub record LeadsToState (b : BookState) (p : ParcelView) : Type 0 where
  pub task : p.task ≡ b.task
  pub leads : node_of b p.kid ≡ Some (node p.state p.cost)

-- what is open at a place: nothing if the successor there is settled; else its parcel
abbrev pub IsOpenAt : BookState → ℕ → Option ParcelView → Type 0
IsOpenAt b place None = slice_index_or b.marks place true ≡ true
IsOpenAt b place (Some p) =
    (slice_index_or b.marks place true ≡ false) × (p.kid ≡ slice_index_or (posted_by b.task (expansions b)) place root) × LeadsToState b p

-- what is open at a place, as a list
abbrev pub open_in : Option ParcelView → List ParcelView
open_in None = []
open_in (Some p) = p ∷ []

-- the successors at the first places, so many of them, that are no entries
abbrev pub open_before : BookState → ℕ → List Kid
open_before b places = filter (λ k. not (has b.entries k)) (take places (posted_by b.task (expansions b)))

-- why a search is not made again from entries: there are more than there may be, or one of them is
-- faulty; or there is no memory
abbrev pub IsFaultOf : Task → ℕ → List Kid → ℕ → Refusal → Type 0
IsFaultOf t most entries n r =
    ((n ≡ 0) × (r ≡ Full) × (most < length entries))
    ⊎ ((length entries ≤ most) × ((r ≡ NoMemory) ⊎ (first_fault t [] entries ≡ Some (n, r))))
