-- What each call of a worker does. (Our own; the search is HDA*, Kishimoto, Fukunaga and Botea
-- 2013.)
use Rattle.std.specs.Prelude.{◌≡◌, ℕ, ◌+◌, ◌-◌, true, false, List, [], ◌∷◌, ◌++◌, Option, Some, None, map, filter, take, drop, length, slice_get}
use Rattle.std.specs.List.{remove}
use Rattle.hd_task.specs.declared.state.State.{State}
use Rattle.hd_task.specs.declared.task.Task.{Task}
use Rattle.hd_task.specs.Covers.{Estimate}
use Rattle.hd_hmax.specs.Rounds.{hmax}
use Rattle.hd_node.specs.declared.batch.By.TheVariants.{Entry}
use Rattle.hd_node.specs.declared.batch.Outcome.{Outcome}
use Rattle.hd_node.specs.declared.batch.Outcome.TheVariants.{Expanded, Duplicate, Bounded}
use Rattle.hd_node.specs.declared.batch.TheConstants.{MAX_OUTCOMES}
use Rattle.hd_entries.specs.Settling.{entry_of}
use Rattle.hd_entries.specs.Growing.{successor_count}
use Rattle.hd_entries.specs.Holding.{Released}
use Rattle.hd_open.specs.Totals.{IsBest}
use Rattle.hd_closed.specs.Numbering.{numbered, closed_numbered}
use Rattle.hd_turns.specs.Settling.{IsOutcomeOf, closed_by}
use Rattle.hd_turns.specs.Totals.{total_at}
use Rattle.hd_turns.specs.Worker.{WorkerView, is_own, is_foreign}

-- `take`: a parcel is the last open node
abbrev pub with_parcel : Released → WorkerView → WorkerView
with_parcel r w = record w { waiting = w.waiting ++ r ∷ [] }

-- ---- `expand`

-- the open node at a place is an outcome more, and what that closes is closed
abbrev pub with_outcome : ℕ → Outcome → WorkerView → WorkerView
with_outcome pick o w = record w {
  waiting = remove w.waiting pick;
  closed = w.closed ++ closed_by (length w.given + length w.outcomes) o;
  outcomes = w.outcomes ++ o ∷ [];
}

-- the open node at a place becomes an outcome
abbrev pub ExpandsTo : Task → Estimate → ℕ → WorkerView → Option Released → WorkerView → Type 0
ExpandsTo t h pick w None w' = w' ≡ w
ExpandsTo t h pick w (Some r) w' = (o : Outcome) × IsOutcomeOf t h w.closed w.seen r o × (w' ≡ with_outcome pick o w)

-- `expand`; nothing happens if there is no such place
abbrev pub Expands : Task → Estimate → ℕ → WorkerView → WorkerView → Type 0
Expands t h pick w w' = ExpandsTo t h pick w (slice_get w.waiting pick) w'

-- `expand_best`: the same at the place of the best open node; nothing happens if none is open
pub data ExpandsBest (t : Task) (w w' : WorkerView) : Type 0 where
  AtBest : (pick : ℕ) → IsBest (total_at t) w.waiting pick → Expands t (hmax t) pick w w' → ExpandsBest t w w'
  AtNone : w.waiting ≡ [] → w' ≡ w → ExpandsBest t w w'

-- ---- `next_batch` and `committed`

-- of each outcome, how many expansions stand before it, the first of which is the expansion of this
-- number
abbrev pub ranks : ℕ → List Outcome → List ℕ
ranks n [] = []
ranks n (o ∷ outcomes) = n ∷ ranks (n + length (entry_of o)) outcomes

-- the first outcomes
abbrev pub batch_of : WorkerView → List Outcome
batch_of w = take MAX_OUTCOMES w.outcomes

-- the batch is given
abbrev pub after_batch : WorkerView → WorkerView
after_batch w = record w {
  given = ranks 0 (batch_of w);
  outcomes = drop MAX_OUTCOMES w.outcomes;
  room = w.room + successor_count (batch_of w);
}

-- an outcome, once the batch that was given last is numbered from `first` on
abbrev pub outcome_numbered : ℕ → List ℕ → Outcome → Outcome
outcome_numbered first given (Expanded e) = Expanded e
outcome_numbered first given (Duplicate k by) = Duplicate k (numbered first given by)
outcome_numbered first given (Bounded k e) = Bounded k e

-- the batch that was given last is numbered
abbrev pub after_numbering : ℕ → WorkerView → WorkerView
after_numbering first w = record w {
  closed = map (closed_numbered first w.given) w.closed;
  given = [];
  outcomes = map (outcome_numbered first w.given) w.outcomes;
}

-- ---- parcels

-- `make_room`: so many parcels more may be released
abbrev pub with_room_for : ℕ → WorkerView → WorkerView
with_room_for count w = record w { room = w.room + count }

-- `released`: its own parcels are open nodes, the others are in the outbox
abbrev pub after_releasing : List Released → WorkerView → WorkerView
after_releasing rs w = record w {
  waiting = w.waiting ++ filter (is_own w.id w.workers) rs;
  outbox = w.outbox ++ filter (is_foreign w.id w.workers) rs;
  room = w.room - length rs;
}

-- `next_out`: the first parcel of the outbox leaves, and may come back
abbrev pub after_sending : WorkerView → WorkerView
after_sending w = record w { outbox = drop 1 w.outbox; lent = true }

-- `put_back`: it is the first again
abbrev pub after_return : Released → WorkerView → WorkerView
after_return r w = record w { outbox = r ∷ w.outbox; lent = false }

-- ---- `see` and `close`

-- `see`: this is the bound that the worker saw last
abbrev pub after_seeing : Option ℕ → WorkerView → WorkerView
after_seeing bound w = record w { seen = bound }

-- `close`: the entry of this number, with its state and cost, is closed
abbrev pub after_closing : ℕ → State → ℕ → WorkerView → WorkerView
after_closing n s cost w = record w { closed = w.closed ++ record { by = Entry n; state = s; cost = cost } ∷ [] }
