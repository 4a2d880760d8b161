-- Where the successors and the entries of a search are when it goes on. (Our own; that the hash of
-- a state names its owner is HDA*'s, Kishimoto, Fukunaga and Botea 2013.)
use Rattle.std.specs.Prelude.{◌≡◌, ℕ, ◌%◌, List, length, Some, Contains, slice_get}
use Rattle.hd_task.specs.declared.task.Task.{Task}
use Rattle.hd_task.specs.declared.plan.Kid.{Kid}
use Rattle.hd_task.specs.Plans.{node}
use Rattle.hd_zobrist.specs.Hash.{state_hash}
use Rattle.hd_node.specs.declared.batch.By.TheVariants.{Entry}
use Rattle.hd_entries.specs.Settling.{node_of, entry_node}
use Rattle.hd_entries.specs.Holding.{Released}
use Rattle.hd_entries.specs.Resuming.{resumed_state}
use Rattle.hd_closed.specs.Closed.{Closed}
use Rattle.hd_recovery.specs.Recovered.{recovered_worker}
use Rattle.hd_world.specs.Seats.{Seat, Run}
use Rattle.hd_world.specs.Moves.{owner_of}

-- a successor is open at the worker that owns its state, with the state and the cost that its plan
-- leads to
pub record IsOpenAtOwner (t : Task) (entries : List Kid) (workers : ℕ) (k : Kid) : Type 0 where
  pub parcel : Released
  pub kid : parcel.kid ≡ k
  pub leads : node_of (resumed_state t entries) k ≡ Some (node parcel.state parcel.cost)
  pub among : Contains (recovered_worker t entries (state_hash parcel.state % workers) workers).waiting parcel

-- the entry of a number is closed at the worker that owns its state, with the state and the cost
-- that its plan leads to
pub record IsClosedAtOwner (t : Task) (entries : List Kid) (workers : ℕ) (n : ℕ) : Type 0 where
  pub closed : Closed
  pub by : closed.by ≡ Entry n
  pub leads : entry_node (resumed_state t entries) n ≡ Some (node closed.state closed.cost)
  pub among : Contains (recovered_worker t entries (state_hash closed.state % workers) workers).closed closed

-- ---- the same in a run

-- a successor is open at the worker to which `push` sends it, with the state and the cost that its
-- plan leads to
pub record IsOpenIn (r : Run) (k : Kid) : Type 0 where
  pub parcel : Released
  pub kid : parcel.kid ≡ k
  pub leads : node_of r.book.state k ≡ Some (node parcel.state parcel.cost)
  pub seat : Seat
  pub owner : slice_get r.seats (owner_of (length r.seats) parcel) ≡ Some seat
  pub among : Contains seat.worker.waiting parcel

-- the entry of a number is closed at the worker that owns its state, with the state and the cost
-- that its plan leads to
pub record IsClosedIn (r : Run) (n : ℕ) : Type 0 where
  pub closed : Closed
  pub by : closed.by ≡ Entry n
  pub leads : entry_node r.book.state n ≡ Some (node closed.state closed.cost)
  pub seat : Seat
  pub owner : slice_get r.seats (state_hash closed.state % length r.seats) ≡ Some seat
  pub among : Contains seat.worker.closed closed
