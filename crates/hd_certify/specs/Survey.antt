-- What entries tell of a search that goes on, or has ended. (Our own; when a plan need not be
-- expanded is said by HDA*, Kishimoto, Fukunaga and Botea 2013.)
use Rattle.std.specs.Prelude.{◌≡◌, ◌≢◌, ◌⊎◌, ℕ, ◌+◌, ◌<◌, ◌≤◌, ◌^◌, nat_lt, min, if◌then◌else◌, List, [], ◌∷◌, ◌++◌, map, length, replicate, flat_map, slice_get, Option, Some, None}
use Rattle.std.specs.List.{AllByRecursion}
use Rattle.std.specs.List.Sorted.{IsPermutation}
use Rattle.hd_task.specs.declared.task.Task.{Task}
use Rattle.hd_task.specs.Entries.{plans_of}
use Rattle.hd_task.specs.Plans.{Node, exec}
use Rattle.hd_task.specs.Expansions.{IsLegal, generated, bound_of, departures_of}
use Rattle.hd_hmax.specs.Rounds.{hmax}
use Rattle.hd_image.specs.declared.entry.Entry.{Entry}
use Rattle.hd_journal.specs.Journal.{kid_of}
use Rattle.hd_entries.specs.Answers.{IsBoundPlanOf}
use Rattle.hd_entries.specs.Resuming.{resumed_state}
use Rattle.hd_entries.specs.Settling.{BookState}
use Rattle.hd_turns.specs.Totals.{total_of}
use Rattle.hd_certify.specs.declared.surveyed.ValueCount.{ValueCount}
use Rattle.hd_certify.specs.declared.surveyed.Survey.{Survey}
use Rattle.hd_certify.specs.Covering.{AreOpen, IsSpared}

-- ---- how many are so

-- counting on from a number, those of the elements that are so bring it to another one
abbrev pub Tallies : {X : Type 0} → (X → Type 0) → List X → ℕ → ℕ → Type 0
Tallies P [] from to = to ≡ from
Tallies P (x ∷ xs) from to = (P x × Tallies P xs (from + 1) to) ⊎ ((P x → ⊥) × Tallies P xs from to)

-- ---- what is least

-- the lesser of two totals, if there are any
abbrev pub lesser : Option ℕ → Option ℕ → Option ℕ
lesser None other = other
lesser (Some one) None = Some one
lesser (Some one) (Some other) = Some (min one other)

-- the total of a node: its cost plus the estimate of its state, if that is finite
abbrev pub total_at : Task → Node → Option ℕ
total_at t r = total_of r.cost (hmax t r.state)

-- going on from a total, the least of the nodes that are not so brings it to another one
abbrev pub Lessens : Task → (Node → Type 0) → List Node → Option ℕ → Option ℕ → Type 0
Lessens t P [] from to = to ≡ from
Lessens t P (r ∷ rs) from to =
    (P r × Lessens t P rs from to) ⊎ ((P r → ⊥) × Lessens t P rs (lesser from (total_at t r)) to)

-- so many of the posted successors need not be expanded any more: they are entries, or the entries
-- spare them; and this is the least total of the others, if there are any
pub record IsSettledBy (b : BookState) (n : ℕ) (least : Option ℕ) : Type 0 where
  pub nodes : List Node
  pub are : AreOpen b nodes
  pub tally : Tallies (IsSpared b) nodes (length b.entries) n
  pub lessens : Lessens b.task (IsSpared b) nodes None least

-- ---- tables

-- the values of rows, each as often as it is counted
abbrev pub spread : List ValueCount → List ℕ
spread rows = flat_map (λ (r : ValueCount). replicate r.count r.value) rows

-- each row's value is less than those of all that follow
abbrev pub AreAscending : List ValueCount → Type 0
AreAscending [] = Unit {0}
AreAscending (r ∷ rows) = AllByRecursion (λ (q : ValueCount). r.value < q.value) rows × AreAscending rows

-- rows count values: each that there is, as often as it is there, and no other; the least comes
-- first
pub record IsTableOf (values : List ℕ) (rows : List ValueCount) : Type 0 where
  pub counted : IsPermutation values (spread rows)
  pub ascending : AreAscending rows
  pub some : AllByRecursion (λ (r : ValueCount). 1 ≤ r.count) rows

-- a row
abbrev pub count_row : ℕ → ℕ → ValueCount
count_row value count = record { value = value; count = count }

-- one value more is counted after rows, of which the last is still being counted: it has this
-- value, and counts one more; or it has another one, and stands with the rows, and this value's row
-- is being counted
abbrev pub CountsOn : List ValueCount → ValueCount → ℕ → List ValueCount → ValueCount → Type 0
CountsOn rows last value after next =
    ((value ≡ last.value) × (after ≡ rows) × (next ≡ count_row last.value (last.count + 1)))
    ⊎ ((value ≢ last.value) × (after ≡ rows ++ last ∷ []) × (next ≡ count_row value 1))

-- the cost of a node that may be there
abbrev pub node_cost : Option Node → ℕ
node_cost None = 0
node_cost (Some r) = r.cost

-- what plans cost
abbrev pub costs_of : Task → List (List ℕ) → List ℕ
costs_of t expanded = map (λ (p : List ℕ). node_cost (exec t p)) expanded

-- the total of a node that may be there
abbrev pub node_total : Task → Option Node → Option ℕ
node_total t None = None
node_total t (Some r) = total_at t r

-- a total, where it is finite and below 2^64
abbrev pub short_total : Option ℕ → List ℕ
short_total None = []
short_total (Some total) = if nat_lt total (2 ^ 64) then total ∷ [] else []

-- a number that may be there, as a list
abbrev pub listed : Option ℕ → List ℕ
listed None = []
listed (Some number) = number ∷ []

-- the totals of plans, as far as they are finite and below 2^64
abbrev pub totals_of : Task → List (List ℕ) → List ℕ
totals_of t expanded = flat_map (λ (p : List ℕ). short_total (node_total t (exec t p))) expanded

-- ---- all of it

-- this is reported of entries, which name a legal list of their task: the bound, its plan, how many
-- plans are generated, how many of them need not be expanded any more, and the least total of the
-- others, the first departure, and how many of the expanded plans have each length, each cost, and
-- each total
pub record IsSurveyOf (t : Task) (entries : List Entry) (s : Survey) : Type 0 where
  pub expanded : List (List ℕ)
  pub named : plans_of (map kid_of entries) ≡ Some expanded
  pub legal : IsLegal t expanded
  pub bound : s.bound ≡ bound_of t expanded
  pub plan : IsBoundPlanOf t expanded s.plan
  pub posted : s.posted ≡ length (generated t expanded)
  pub settled : IsSettledBy (resumed_state t (map kid_of entries)) s.settled s.least
  pub departure : s.departure ≡ slice_get (departures_of t expanded) 0
  pub depths : IsTableOf (map length expanded) s.depths
  pub costs : IsTableOf (costs_of t expanded) s.costs
  pub totals : IsTableOf (totals_of t expanded) s.totals
