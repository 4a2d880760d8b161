-- A worker, as contracts see it. (Our own; the search is HDA*, Kishimoto, Fukunaga and Botea 2013.)
use Rattle.std.specs.Prelude.{ℕ, ◌%◌, ◌==◌, Bool, false, not, List, [], Option, None}
use Rattle.hd_task.specs.declared.task.Task.{Task}
use Rattle.hd_zobrist.specs.Hash.{state_hash}
use Rattle.hd_node.specs.declared.batch.Outcome.{Outcome}
use Rattle.hd_entries.specs.Holding.{Released}
use Rattle.hd_closed.specs.Closed.{Closed}

-- a worker: its task, its number, and of how many workers it is one; its open nodes in order of
-- arrival; the expansions that it knows of, in order; of each outcome of the batch that it gave
-- last, as long as that is not numbered, how many expansions stand before it; its further outcomes,
-- in order; the parcels that it sends, in order; the bound that it saw last; how many parcels may
-- be released to it; and whether the parcel that it sent last may come back. `Here` counts from the
-- first outcome of the batch that it gave last
pub record WorkerView : Type 0 where
  pub task : Task
  pub id : ℕ
  pub workers : ℕ
  pub waiting : List Released
  pub closed : List Closed
  pub given : List ℕ
  pub outcomes : List Outcome
  pub outbox : List Released
  pub seen : Option ℕ
  pub room : ℕ
  pub lent : Bool

-- a worker that has no nodes, no outcomes and no parcels, and saw no bound
abbrev pub empty_worker : Task → ℕ → ℕ → WorkerView
empty_worker t id workers = record {
  task = t;
  id = id;
  workers = workers;
  waiting = [];
  closed = [];
  given = [];
  outcomes = [];
  outbox = [];
  seen = None;
  room = 0;
  lent = false;
}

-- a worker owns the states whose hashes have its number as their remainder
abbrev pub is_own : ℕ → ℕ → Released → Bool
is_own id workers r = state_hash r.state % workers == id

-- another worker owns the state of a parcel
abbrev pub is_foreign : ℕ → ℕ → Released → Bool
is_foreign id workers r = not (is_own id workers r)
