-- What a batch of outcomes adds to the parts of a book. (Our own.)
use Rattle.std.specs.Prelude.{ℕ, ◌+◌, if◌then◌else◌, nat_lt, List, [], ◌∷◌, map, Option, Some, None, flat_map, length, slice_get, option_map}
use Rattle.std.specs.Option.{option_or}
use Rattle.std.specs.List.{fold}
use Rattle.hd_tables.specs.Kids.{KidsView, with_new_entry, with_kid}
use Rattle.hd_task.specs.declared.departure.Departure.{Departure}
use Rattle.hd_task.specs.Expansions.{goal_cost, departure_at}
use Rattle.hd_node.specs.Children.{ChildView}
use Rattle.hd_node.specs.declared.batch.Outcome.{Outcome}
use Rattle.hd_node.specs.declared.batch.Outcome.TheVariants.{Expanded, Duplicate, Bounded}
use Rattle.hd_task.specs.Plans.{node}
use Rattle.hd_entries.specs.declared.entry.ExpandedPlan.{ExpandedPlan}
use Rattle.hd_entries.specs.declared.entry.Best.{Best}

-- the entry that an outcome adds, if it is an expansion
abbrev pub entry_gained : Outcome → List ExpandedPlan
entry_gained (Expanded e) = record { kid = e.kid; state = e.state; cost = e.cost } ∷ []
entry_gained (Duplicate k by) = []
entry_gained (Bounded k h) = []

-- the entries that outcomes add
abbrev pub entered_by : List Outcome → List ExpandedPlan
entered_by outcomes = flat_map entry_gained outcomes

-- an entry of a number, at a cost
abbrev pub best_at : ℕ → ℕ → Best
best_at n c = record { cost = c; entry = n }

-- the better one of what is best so far and a later entry that meets the goal at some cost, if it
-- does
abbrev pub better : Option Best → ℕ → Option ℕ → Option Best
better best n None = best
better None n (Some c) = Some (best_at n c)
better (Some b) n (Some c) = if nat_lt c b.cost then Some (best_at n c) else Some b

-- the best after outcomes, where the next entry is numbered n
abbrev pub best_by : Option Best → ℕ → List Outcome → Option Best
best_by best n [] = best
best_by best n (Expanded e ∷ outcomes) = best_by (better best n (goal_cost e.task (Some (node e.state e.cost)))) (n + 1) outcomes
best_by best n (Duplicate k by ∷ outcomes) = best_by best n outcomes
best_by best n (Bounded k h ∷ outcomes) = best_by best n outcomes

-- the first departure after outcomes, where the next entry is numbered n
abbrev pub departure_by : Option Departure → ℕ → List Outcome → Option Departure
departure_by first n [] = first
departure_by first n (Expanded e ∷ outcomes) = departure_by (option_or first (option_map (departure_at n) (slice_get e.departures 0))) (n + 1) outcomes
departure_by first n (Duplicate k by ∷ outcomes) = departure_by first n outcomes
departure_by first n (Bounded k h ∷ outcomes) = departure_by first n outcomes

-- how many successors an outcome has, if it is an expansion
abbrev pub kids_at : Outcome → ℕ
kids_at (Expanded e) = length e.children
kids_at (Duplicate k by) = 0
kids_at (Bounded k h) = 0

-- how many successors outcomes have
abbrev pub successor_count : List Outcome → ℕ
successor_count [] = 0
successor_count (o ∷ outcomes) = kids_at o + successor_count outcomes

-- the table after the successors of one entry more, by their actions
abbrev pub with_kids : KidsView → List ℕ → KidsView
with_kids table actions = fold with_kid (with_new_entry table) actions

-- the actions of children
abbrev pub actions_of : List ChildView → List ℕ
actions_of children = map (λ (c : ChildView). c.action) children

-- the table after an outcome: where it is an expansion, its successors are posted
abbrev pub posted_one : KidsView → Outcome → KidsView
posted_one table (Expanded e) = with_kids table (actions_of e.children)
posted_one table (Duplicate k by) = table
posted_one table (Bounded k h) = table

-- the table after outcomes
abbrev pub posted_all : KidsView → List Outcome → KidsView
posted_all table outcomes = fold posted_one table outcomes
