-- What open nodes keep. (Our own.)
use Rattle.std.specs.Prelude.{◌≡◌, ⊤, ℕ, ◌+◌, ◌≤◌, List, [], ◌∷◌, ◌++◌, Some, map, slice_get}
use Rattle.std.specs.List.{AllByRecursion}
use Rattle.hd_task.specs.declared.plan.Kid.{Kid}
use Rattle.hd_task.specs.declared.state.State.{State}
use Rattle.hd_task.specs.declared.task.Task.{Task}
use Rattle.hd_hmax.specs.Rounds.{hmax}
use Rattle.hd_node.specs.Parcel.{ParcelView}
use Rattle.hd_entries.specs.Holding.{Released, parcel_of, IsParcelOf}
use Rattle.hd_closed.specs.Closed.{ClosedView, state_at}
use Rattle.hd_worker.specs.declared.node.WaitingNode.{WaitingNode}
use Rattle.hd_turns.specs.Totals.{total_of}

-- the successor of a node, which is kept in two parts
abbrev pub kid_of : WaitingNode → Kid
kid_of n = record { parent = n.parent; action = n.action }

-- what a node releases, whose state stands among these
abbrev pub released_of : List State → WaitingNode → Released
released_of states n = record { kid = kid_of n; state = state_at states n.state; cost = n.cost }

-- the open nodes, and after them the parcels that came and are not estimated yet
abbrev pub waiting_by : List State → List WaitingNode → List ParcelView → List Released
waiting_by states nodes fresh = map (released_of states) nodes ++ map parcel_of fresh

-- a node's state stands at its place, and its total is that of its cost and its state
pub record IsNodeOf (t : Task) (states : List State) (n : WaitingNode) : Type 0 where
  pub there : slice_get states n.state ≡ Some (state_at states n.state)
  pub total_is : n.total ≡ total_of n.cost (hmax t (state_at states n.state))

-- the states of the first parcels stand at these places, in order
abbrev pub AreMet : List State → List ParcelView → List ℕ → Type 0
AreMet states fresh [] = ⊤
AreMet states [] (place ∷ places) = ⊥
AreMet states (p ∷ fresh) (place ∷ places) = (slice_get states place ≡ Some p.state) × AreMet states fresh places

-- what the parts of a frontier keep, where so many parcels came and there is room for so many
pub record IsFrontier (t : Task) (known : ClosedView) (nodes : List WaitingNode) (fresh : List ParcelView) (len capacity room : ℕ) : Type 0 where
  pub of_task : known.task ≡ t
  pub nodes_of : AllByRecursion (IsNodeOf t known.states) nodes
  pub parcels_of : AllByRecursion (IsParcelOf t) fresh
  pub room_for : len + room ≤ capacity
