-- The closed list, as contracts see it. (Closed lists are those of A*: Hart, Nilsson and Raphael
-- 1968.)
use Rattle.std.specs.Prelude.{◌≡◌, ℕ, ◌≤◌, Bool, [], List, Contains, slice_index_or}
use Rattle.hd_task.specs.declared.state.State.{State}
use Rattle.hd_task.specs.declared.task.Task.{Task}
use Rattle.hd_node.specs.declared.batch.By.{By}

-- an expansion: what names it, its state, and what its plan costs
pub record Closed : Type 0 where
  pub by : By
  pub state : State
  pub cost : ℕ

-- the task, the states that were met, the expansions, in order, and whether there is room for one
-- more
pub record ClosedView : Type 0 where
  pub task : Task
  pub states : List State
  pub closed : List Closed
  pub ready : Bool

-- a state that has nothing
abbrev pub nothing : State
nothing = record { atoms = []; fluents = [] }

-- the state at a place
abbrev pub state_at : List State → ℕ → State
state_at states place = slice_index_or states place nothing

-- an expansion of the state at a place
abbrev pub closed_at : List State → ℕ → By → ℕ → Closed
closed_at states place by cost = record { by = by; state = state_at states place; cost = cost }

-- an expansion of a state that costs no more than so much
pub record IsClosedAt (closed : List Closed) (s : State) (cost : ℕ) (c : Closed) : Type 0 where
  pub among : Contains closed c
  pub same_state : c.state ≡ s
  pub no_dearer : c.cost ≤ cost

-- there is one, and this names it
abbrev pub IsNamedBy : List Closed → State → ℕ → By → Type 0
IsNamedBy closed s cost by = (c : Closed) × IsClosedAt closed s cost c × (c.by ≡ by)

-- each expansion of a state costs more than so much
abbrev pub IsDearer : List Closed → State → ℕ → Type 0
IsDearer closed s cost = (c : Closed) → IsClosedAt closed s cost c → ⊥
