-- What a search that goes on from a journal's entries begins with: each worker has its own part
-- of what is closed and of what is open. (Our own; that the hash of a state names its owner is
-- HDA*'s, Kishimoto, Fukunaga and Botea 2013.)
use Rattle.std.specs.Prelude.{◌≡◌, ℕ, ◌%◌, ◌<◌, ◌==◌, Bool, false, List, [], ◌∷◌, Option, Some, None, map, filter, length, slice_index_or, flat_map}
use Rattle.std.specs.List.{range_with_len}
use Rattle.hd_task.specs.declared.task.Task.{Task}
use Rattle.hd_task.specs.declared.plan.Kid.{Kid}
use Rattle.hd_task.specs.Plans.{Node}
use Rattle.hd_zobrist.specs.Hash.{state_hash}
use Rattle.hd_node.specs.declared.batch.By.TheVariants.{Entry}
use Rattle.hd_entries.specs.Settling.{BookState, entry_node, node_of}
use Rattle.hd_entries.specs.Holding.{Released}
use Rattle.hd_entries.specs.Resuming.{open_before, open_kids, resumed_state}
use Rattle.hd_closed.specs.Closed.{Closed}
use Rattle.hd_turns.specs.Worker.{WorkerView, is_own}

-- ---- all that is closed, and all that is open

-- the entry of this number is closed with the state and the cost that its plan leads to
abbrev pub closed_as : ℕ → Option Node → List Closed
closed_as n None = []
closed_as n (Some r) = record { by = Entry n; state = r.state; cost = r.cost } ∷ []

-- the entry of this number, closed with the state and the cost that its plan leads to
abbrev pub entry_closed : BookState → ℕ → List Closed
entry_closed b n = closed_as n (entry_node b n)

-- the entries, in order
abbrev pub closed_in : BookState → List Closed
closed_in b = flat_map (entry_closed b) (range_with_len 0 (length b.entries))

-- a successor is open with the state and the cost that its plan leads to
abbrev pub open_as : Kid → Option Node → List Released
open_as k None = []
open_as k (Some r) = record { kid = k; state = r.state; cost = r.cost } ∷ []

-- a successor, open with the state and the cost that its plan leads to
abbrev pub open_at : BookState → Kid → List Released
open_at b k = open_as k (node_of b k)

-- the successors of entries that are no entries, in posting order
abbrev pub open_nodes : Task → List Kid → List Released
open_nodes t entries = flat_map (open_at (resumed_state t entries)) (open_kids t entries)

-- the same of the successors at the first places, so many of them
abbrev pub nodes_before : BookState → ℕ → List Released
nodes_before b places = flat_map (open_at b) (open_before b places)

-- ---- a worker's own part

-- a worker owns the state of what is closed
abbrev pub is_own_closed : ℕ → ℕ → Closed → Bool
is_own_closed id workers c = state_hash c.state % workers == id

-- of what is closed and of what is open, a worker has what it owns, in order; it has seen
-- nothing, given nothing, and sends nothing
abbrev pub with_own : Task → ℕ → List Closed → List Released → ℕ → WorkerView
with_own t workers closed waiting id = record {
  task = t;
  id = id;
  workers = workers;
  waiting = filter (is_own id workers) waiting;
  closed = filter (is_own_closed id workers) closed;
  given = [];
  outcomes = [];
  outbox = [];
  seen = None;
  room = 0;
  lent = false;
}

-- so many workers, in the order of their numbers
abbrev pub team : Task → ℕ → List Closed → List Released → List WorkerView
team t workers closed waiting = map (with_own t workers closed waiting) (range_with_len 0 workers)

-- workers are of a task
abbrev pub AreOfTask : Task → List WorkerView → Type 0
AreOfTask t workers = (id : ℕ) (d : WorkerView) → id < length workers → (slice_index_or workers id d).task ≡ t

-- ---- the search that goes on

-- the worker of this number, of so many, where a search goes on from entries: each entry whose
-- state it owns is closed, and each successor that is no entry and whose state it owns is open
abbrev pub recovered_worker : Task → List Kid → ℕ → ℕ → WorkerView
recovered_worker t entries id workers = with_own t workers (closed_in (resumed_state t entries)) (open_nodes t entries) id

-- all of them
abbrev pub recovered_workers : Task → List Kid → ℕ → List WorkerView
recovered_workers t entries workers = map (λ id. recovered_worker t entries id workers) (range_with_len 0 workers)
