-- What is held of a search, as its parts keep it and as contracts see it. (Our own.)
use Rattle.std.specs.Prelude.{◌≡◌, ℕ, ◌+◌, ◌<◌, ◌≤◌, ◌≢◌, Bool, false, List, [], ◌∷◌, ◌++◌, map, length, slice_index_or, Option, Some, None, slice_get, unwrap_or, flat_map}
use Rattle.std.specs.List.{count_by}
use Rattle.hd_task.specs.declared.state.State.{State}
use Rattle.hd_task.specs.declared.task.Task.{Task}
use Rattle.hd_task.specs.declared.plan.Kid.{Kid}
use Rattle.hd_task.specs.declared.plan.TheConstants.{ROOT_PARENT}
use Rattle.hd_task.specs.declared.departure.Departure.{Departure}
use Rattle.hd_task.specs.Plans.{Node, exec, node}
use Rattle.hd_task.specs.Expansions.{generated, goal_cost, bound_of, departures_of}
use Rattle.hd_task.specs.Entries.{plans_of}
use Rattle.hd_node.specs.Children.{ChildView}
use Rattle.hd_node.specs.Parcel.{ParcelView}
use Rattle.hd_node.specs.declared.batch.Outcome.{Outcome}
use Rattle.hd_node.specs.declared.batch.Outcome.TheVariants.{Expanded, Duplicate, Bounded}
use Rattle.hd_entries.specs.declared.entry.ExpandedPlan.{ExpandedPlan}
use Rattle.hd_entries.specs.declared.entry.Best.{Best}
use Rattle.hd_entries.specs.declared.expanded.ExpandedPlans.{ExpandedPlans}
use Rattle.hd_entries.specs.declared.content.EntriesContent.{EntriesContent}
use Rattle.hd_tables.specs.Kids.{KidsView, kid_from}
use Rattle.hd_entries.specs.Kids.{posted_by}
use Rattle.hd_entries.specs.Settling.{BookState, IsBookKept, entry_of, expansions}

-- ---- what contracts see

-- a successor that is released, and where it leads
pub record Released : Type 0 where
  pub kid : Kid
  pub state : State
  pub cost : ℕ

-- what is held of a search, and how many entries there may be
pub record EntriesView : Type 0 where
  pub state : BookState
  pub most : ℕ

-- what an entry's child is released as
abbrev pub released_from : ℕ → ChildView → Released
released_from n c = record { kid = kid_from n c.action; state = c.state; cost = c.cost }

-- what an outcome releases, if it is an expansion: the successors of the entry that is numbered n
abbrev pub released_at : ℕ → Outcome → List Released
released_at n (Expanded e) = map (released_from n) e.children
released_at n (Duplicate k by) = []
released_at n (Bounded k h) = []

-- what outcomes release, where their entries are numbered from n on
abbrev pub released_by : ℕ → List Outcome → List Released
released_by n [] = []
released_by n (o ∷ outcomes) = released_at n o ++ released_by (n + length (entry_of o)) outcomes

-- ---- what a batch does

-- how many successors are settled
abbrev pub settled_count : BookState → ℕ
settled_count b = count_by (λ m. m) b.marks

-- a search that has not begun, which may have so many entries: the root is posted
abbrev pub no_entries : Task → ℕ → EntriesView
no_entries t most = record { state = record { task = t; entries = []; marks = false ∷ [] }; most = most }

-- the entries of outcomes are added, one for each expansion among them
abbrev pub GainsEntries : BookState → BookState → List Outcome → Type 0
GainsEntries old new outcomes = new.entries ≡ old.entries ++ flat_map entry_of outcomes

-- each of the outcomes settles one successor
abbrev pub SettlesEach : BookState → BookState → List Outcome → Type 0
SettlesEach old new outcomes = settled_count new ≡ settled_count old + length outcomes

-- ---- how the parts show it

-- what a parcel releases
abbrev pub parcel_of : ParcelView → Released
parcel_of p = record { kid = p.kid; state = p.state; cost = p.cost }

-- the successor that an entry is
abbrev pub successor_at_entry : ExpandedPlan → Kid
successor_at_entry e = e.kid

-- the node that an entry's plan leads to: its state and its cost
abbrev pub node_at : ExpandedPlan → Node
node_at e = node e.state e.cost

-- the plans that some entries name
abbrev pub plans_at : List Kid → List (List ℕ)
plans_at entries = unwrap_or (plans_of entries) []

-- how many successors are posted
abbrev pub posted_count : BookState → ℕ
posted_count b = length (generated b.task (expansions b))

-- the state of the book that has these entries, and these marks for the successors that they post
abbrev pub state_by : Task → List ExpandedPlan → List Bool → BookState
state_by t entries marks = record { task = t; entries = map successor_at_entry entries; marks = marks }

-- the state of the book that has these expanded plans, and these marks for their successors
abbrev pub state_with : ExpandedPlans → List Bool → BookState
state_with x marks = state_by x.task.now x.entries.items marks

-- the state of expanded plans, marks aside
abbrev pub unmarked : ExpandedPlans → BookState
unmarked x = state_with x []

-- the state of the book that the parts keep: its entries, and the marks of their successors
abbrev pub state_of : EntriesContent → BookState
state_of c = state_with c.expanded c.kids.marks

-- the search that the parts keep, as contracts see it
abbrev pub view_of : EntriesContent → EntriesView
view_of c = record { state = state_of c; most = c.most }

-- ---- what the parts keep

-- the bound is here, with the least number of a plan at it
pub record IsBestAt (t : Task) (expanded : List (List ℕ)) (b : Best) : Type 0 where
  pub bound : bound_of t expanded ≡ Some b.cost
  pub among : b.entry < length expanded
  pub meets : goal_cost t (exec t (slice_index_or expanded b.entry [])) ≡ Some b.cost
  pub first : (n : ℕ) → n < b.entry → goal_cost t (exec t (slice_index_or expanded n [])) ≢ Some b.cost

-- the bound, if there is one, is where it is said to be
abbrev pub IsBestOf : Task → List (List ℕ) → Option Best → Type 0
IsBestOf t expanded None = bound_of t expanded ≡ None
IsBestOf t expanded (Some b) = IsBestAt t expanded b

-- a parcel is of a task
abbrev pub IsParcelOf : Task → ParcelView → Type 0
IsParcelOf t p = p.task ≡ t

-- what the expanded plans keep: the entries name plans, which lead to their nodes; and the best of
-- them and the first departure are as they are said to be
pub record AreExpanded (t : Task) (entries : List ExpandedPlan) (best : Option Best) (departure : Option Departure) : Type 0 where
  pub named : plans_of (map successor_at_entry entries) ≡ Some (plans_at (map successor_at_entry entries))
  pub short : length entries < ROOT_PARENT
  pub nodes : map (exec t) (plans_at (map successor_at_entry entries)) ≡ map (λ e. Some (node_at e)) entries
  pub best_is : IsBestOf t (plans_at (map successor_at_entry entries)) best
  pub departure_is : departure ≡ slice_get (departures_of t (plans_at (map successor_at_entry entries))) 0

-- what expanded plans keep: entries that name plans, their nodes, the best and the first departure
abbrev pub IsExpanded : ExpandedPlans → Type 0
IsExpanded x = AreExpanded x.task.now x.entries.items x.best x.departure

-- a table has the successors that entries post
pub record HasKids (t : Task) (entries : List ExpandedPlan) (table : KidsView) : Type 0 where
  pub posted : table.kids ≡ posted_by t (plans_at (map successor_at_entry entries))
  pub entered : table.entries ≡ length entries

-- what the parts always keep
pub record IsHeldBy (t : Task) (entries : List ExpandedPlan) (best : Option Best) (departure : Option Departure) (table : KidsView) (most : ℕ) : Type 0 where
  pub kept : IsBookKept (state_by t entries table.marks)
  pub plans : AreExpanded t entries best departure
  pub posts : HasKids t entries table
  pub within : length entries ≤ most
  pub numbered : most < ROOT_PARENT

-- the parts of a search agree: its entries, the successors that they post, and the limits
abbrev pub IsHeld : EntriesContent → Type 0
IsHeld c = IsHeldBy c.expanded.task.now c.expanded.entries.items c.expanded.best c.expanded.departure c.kids c.most
