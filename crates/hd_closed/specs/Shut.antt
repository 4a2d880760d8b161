-- What a closed list keeps. (Our own.)
use Rattle.std.specs.Prelude.{◌≡◌, ℕ, ◌<◌, ◌≤◌, Bool, true, nat_lt, nat_le, if◌then◌else◌, List, Option, Some, None, map, length, slice_get, IfSome}
use Rattle.std.specs.List.{AllByRecursion}
use Rattle.hd_task.specs.declared.state.State.{State}
use Rattle.hd_task.specs.declared.task.Task.{Task}
use Rattle.hd_task.specs.Plans.{IsStateOf}
use Rattle.hd_hmax.specs.Rounds.{hmax}
use Rattle.hd_hmax.specs.Value.{estimated}
use Rattle.hd_node.specs.declared.batch.By.{By}
use Rattle.hd_node.specs.declared.batch.By.TheVariants.{Entry, Here}
use Rattle.hd_closed.specs.declared.notes.Note.{Note}
use Rattle.hd_closed.specs.declared.closed.Shut.{Shut}
use Rattle.hd_closed.specs.Closed.{Closed, closed_at}
use Rattle.hd_closed.specs.Notes.{IsTable}
use Rattle.hd_closed.specs.Numbering.{numbered}

-- an expansion as contracts see it: with its state instead of the state's number
abbrev pub closed_of : List State → Shut → Closed
closed_of states s = closed_at states s.state s.by s.cost

-- an expansion is an entry
abbrev pub IsEntered : By → Type 0
IsEntered (Entry n) = Unit {0}
IsEntered (Here i) = ⊥

-- all before a place are entries
abbrev pub HasNumbered : List Shut → ℕ → Type 0
HasNumbered shuts place = (k : ℕ) (s : Shut) → k < place → slice_get shuts k ≡ Some s → IsEntered s.by

-- an expansion, once the batch that was given last is numbered from `first` on
abbrev pub shut_numbered : ℕ → List ℕ → Shut → Shut
shut_numbered first given s = record { by = numbered first given s.by; state = s.state; cost = s.cost }

-- expansions are named again
abbrev pub AreRenumbered : ℕ → List ℕ → List Shut → List Shut → Type 0
AreRenumbered first given before after = after ≡ map (shut_numbered first given) before

-- an expansion of this cost is cheaper than another, if there is one
abbrev pub is_cheaper_than : Option Shut → ℕ → Bool
is_cheaper_than None cost = true
is_cheaper_than (Some s) cost = nat_lt cost s.cost

-- an expansion of this cost is cheaper than the one at a place, if there is one
abbrev pub is_cheaper : List Shut → Option ℕ → ℕ → Bool
is_cheaper shuts None cost = true
is_cheaper shuts (Some place) cost = is_cheaper_than (slice_get shuts place) cost

-- what names an expansion, if there is one, and it costs no more than so much
abbrev pub no_dearer_than : Option Shut → ℕ → Option By
no_dearer_than None cost = None
no_dearer_than (Some s) cost = if nat_le s.cost cost then Some s.by else None

-- the name of the expansion at a place, if there is one, and it costs no more than `cost`
abbrev pub no_dearer : List Shut → Option ℕ → ℕ → Option By
no_dearer shuts None cost = None
no_dearer shuts (Some place) cost = no_dearer_than (slice_get shuts place) cost

-- the estimate that is noted of a state is its own
abbrev pub IsNoted : Task → State → Note → Type 0
IsNoted t s n = IfSome n.value (λ v. estimated v ≡ hmax t s)

-- the expansion at a place is the cheapest of its state
pub record IsCheapest (shuts : List Shut) (state : ℕ) (place : ℕ) : Type 0 where
  pub shut : Shut
  pub there : slice_get shuts place ≡ Some shut
  pub of_state : shut.state ≡ state
  pub least : (k : ℕ) (s : Shut) → slice_get shuts k ≡ Some s → s.state ≡ state → shut.cost ≤ s.cost

-- a state has no expansion, or this is the cheapest
abbrev pub IsLeastOf : List Shut → ℕ → Option ℕ → Type 0
IsLeastOf shuts state None = (k : ℕ) (s : Shut) → slice_get shuts k ≡ Some s → s.state ≡ state → ⊥
IsLeastOf shuts state (Some place) = IsCheapest shuts state place

-- each state is noted once, and each expansion is of one that is noted
pub record IsClosedListKept (t : Task) (states : List State) (notes : List Note) (heads : List (Option ℕ)) (shuts : List Shut) (entered : ℕ) : Type 0 where
  pub as_many : length notes ≡ length states
  pub of_task : AllByRecursion (IsStateOf t) states
  pub noted : (k : ℕ) (s : State) (n : Note) → slice_get states k ≡ Some s → slice_get notes k ≡ Some n → IsNoted t s n
  pub table : IsTable states notes heads
  pub once : (i j : ℕ) (s : State) → slice_get states i ≡ Some s → slice_get states j ≡ Some s → i ≡ j
  pub within : AllByRecursion (λ s. s.state < length states) shuts
  pub least : (k : ℕ) (n : Note) → slice_get notes k ≡ Some n → IsLeastOf shuts k n.least
  pub numbered : HasNumbered shuts entered
  pub bounded : entered ≤ length shuts
