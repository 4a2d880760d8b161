-- Open nodes and the closed list, as contracts see them. (A*, Hart, Nilsson and Raphael 1968; HDA*,
-- Kishimoto, Fukunaga and Botea 2013.)
use Rattle.std.specs.Prelude.{◌≡◌, ℕ, ◌-◌, Bool, List, [], ◌∷◌, ◌++◌, Option, Some, None, map, filter, length, slice_get}
use Rattle.std.specs.List.{remove}
use Rattle.hd_task.specs.declared.state.State.{State}
use Rattle.hd_task.specs.declared.task.Task.{Task}
use Rattle.hd_hmax.specs.Rounds.{hmax}
use Rattle.hd_node.specs.declared.batch.By.TheVariants.{Entry}
use Rattle.hd_node.specs.declared.batch.Outcome.{Outcome}
use Rattle.hd_entries.specs.Holding.{Released}
use Rattle.hd_open.specs.Totals.{IsBest}
use Rattle.hd_closed.specs.Closed.{Closed}
use Rattle.hd_closed.specs.Numbering.{closed_numbered}
use Rattle.hd_turns.specs.Settling.{IsOutcomeOf, closed_by}
use Rattle.hd_turns.specs.Totals.{total_at}

-- the task, the open nodes in order of arrival, the closed list in order, and how many parcels may
-- still come without memory
pub record FrontierView : Type 0 where
  pub task : Task
  pub waiting : List Released
  pub closed : List Closed
  pub room : ℕ

-- a frontier with no open nodes, nothing closed and no room for parcels
abbrev pub empty_frontier : Task → FrontierView
empty_frontier t = record { task = t; waiting = []; closed = []; room = 0 }

-- a frontier with this room for parcels, and otherwise the same
abbrev pub with_room : ℕ → FrontierView → FrontierView
with_room room f = record { task = f.task; waiting = f.waiting; closed = f.closed; room = room }

-- a parcel is the last open node
abbrev pub arrived : Released → FrontierView → FrontierView
arrived r f = record { task = f.task; waiting = f.waiting ++ r ∷ []; closed = f.closed; room = f.room }

-- the same, where it takes some of the room
abbrev pub received : Released → FrontierView → FrontierView
received r f = with_room (f.room - 1) (arrived r f)

-- of parcels that are released, those that are own ones are the last open nodes, in their order;
-- all take some of the room
abbrev pub opens : (Released → Bool) → List Released → FrontierView → FrontierView
opens own rs f = record { task = f.task; waiting = f.waiting ++ filter own rs; closed = f.closed; room = f.room - length rs }

-- an entry more is closed
abbrev pub closed_too : ℕ → State → ℕ → FrontierView → FrontierView
closed_too n s cost f = record {
  task = f.task;
  waiting = f.waiting;
  closed = f.closed ++ record { by = Entry n; state = s; cost = cost } ∷ [];
  room = f.room;
}

-- all expansions are named again
abbrev pub all_numbered : ℕ → List ℕ → FrontierView → FrontierView
all_numbered first given f = record { task = f.task; waiting = f.waiting; closed = map (closed_numbered first given) f.closed; room = f.room }

-- the open node at a place is settled: its outcome stands at that place among the outcomes
abbrev pub settled_at : ℕ → ℕ → Outcome → FrontierView → FrontierView
settled_at place pick o f = record { task = f.task; waiting = remove f.waiting pick; closed = f.closed ++ closed_by place o; room = f.room }

-- the open node at a place is settled with an outcome; or there is none, and nothing has changed
abbrev pub SettlesAt : Task → Option ℕ → ℕ → ℕ → FrontierView → Option Outcome → FrontierView → Type 0
SettlesAt t seen place pick f None f' = (slice_get f.waiting pick ≡ None) × (f' ≡ f)
SettlesAt t seen place pick f (Some o) f' =
    (r : Released) × (slice_get f.waiting pick ≡ Some r) × IsOutcomeOf t (hmax t) f.closed seen r o × (f' ≡ settled_at place pick o f)

-- the same at the place of the best one
abbrev pub SettlesBest : Task → Option ℕ → ℕ → FrontierView → Option Outcome → FrontierView → Type 0
SettlesBest t seen place f None f' = (f.waiting ≡ []) × (f' ≡ f)
SettlesBest t seen place f (Some o) f' = (pick : ℕ) × IsBest (total_at t) f.waiting pick × SettlesAt t seen place pick f (Some o) f'
