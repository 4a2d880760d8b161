-- A search that is opened for its threads. (Our own; the search is HDA*, Kishimoto, Fukunaga and
-- Botea 2013.)
use Rattle.std.specs.Prelude.{◌≡◌, ℕ, ◌+◌, ◌<◌, ◌≤◌, List, [], ◌∷◌, length, Option, Some}
use Rattle.std.specs.List.{AllByRecursion}
use Rattle.crossbeam_queue.specs.Passes.{view}
use Rattle.hd_task.specs.declared.task.Task.{Task}
use Rattle.hd_task.specs.declared.plan.Kid.{Kid}
use Rattle.hd_zobrist.specs.declared.owners.TheConstants.{MAX_WORKERS}
use Rattle.hd_desk.specs.declared.view.Seen.{Seen}
use Rattle.hd_desk.specs.Bound.{word_of}
use Rattle.hd_desk.specs.Passes.{IsOutside}
use Rattle.hd_desk.specs.Hands.{IsFor, parts_of}
use Rattle.hd_turns.specs.Worker.{WorkerView}
use Rattle.hd_threads.specs.declared.placing.Desk.{Desk}
use Rattle.hd_threads.specs.declared.placing.Workplace.{Workplace}
use Rattle.hd_threads.specs.Placing.{IsReadyAt}
use Rattle.hd_search.specs.declared.opening.CommitterPlace.{CommitterPlace}
use Rattle.hd_search.specs.declared.opening.Rest.{Rest}

-- a worker is of a task, and has given no batch yet
pub record IsFresh (t : Task) (w : WorkerView) : Type 0 where
  pub task : w.task ≡ t
  pub numbered : w.given ≡ []

-- what a pass has seen is a book of this task with just these entries
pub record HasSeen (t : Task) (kids : List Kid) (s : Seen Task Kid) : Type 0 where
  pub task : s.task ≡ Some t
  pub log : s.log ≡ kids

-- there is room for so many places more at a desk: of all that a place has a part of, more parts
-- are left
pub record HasSeatsLeft {L A : Type 0} (t : Task) (log : List Kid) (d : Desk L A) (left : ℕ) (r : Rest L A) : Type 0 where
  pub outside : IsOutside d.lock.place r.pass
  pub seen : HasSeen t log (view r.pass).seen
  pub passes : left < (view r.pass).parts
  pub shares : left < r.share.parts
  pub seat : r.seat.of ≡ d.bound.of
  pub least : r.seat.seen ≡ d.bound.start
  pub seats : left < r.seat.parts
  pub hands : IsFor d.boxes r.hands
  pub parcels : r.hands.of ≡ t
  pub many : AllByRecursion (λ n. left < n) (parts_of r.hands)

-- a place has seen the bound with which the workers' shared one starts
abbrev pub HasSeenStart : {L A : Type 0} → Desk L A → Workplace L A → Type 0
HasSeenStart d p = p.seat.seen ≡ d.bound.start

-- the bound that workers share starts with this one, and each place has seen it
pub record StartsWith {L A : Type 0} (bound : Option ℕ) (d : Desk L A) (places : List (Workplace L A)) : Type 0 where
  pub start : d.bound.start ≡ word_of bound
  pub seen : AllByRecursion (HasSeenStart d) places

-- the workers at places are those of so many whose numbers begin with this one, in order
abbrev pub AreWorkersInOrder : {L A : Type 0} → ℕ → ℕ → List (Workplace L A) → Type 0
AreWorkersInOrder from workers [] = Unit {0}
AreWorkersInOrder from workers (p ∷ places) = (p.worker.id ≡ from) × (p.worker.workers ≡ workers) × AreWorkersInOrder (from + 1) workers places

-- each place is at the desk, of the worker of its number, and there is a mailbox for each, of as
-- many as there may be
pub record AreAt {L A : Type 0} (d : Desk L A) (places : List (Workplace L A)) : Type 0 where
  pub each : AllByRecursion (IsReadyAt d) places
  pub numbered : AreWorkersInOrder 0 (length places) places
  pub boxes : length places ≡ length d.boxes
  pub few : length places ≤ MAX_WORKERS

-- a place is at the desk, which has a mailbox for each of so many workers, of whom the place's
-- has this number
pub record IsJob {L A : Type 0} (d : Desk L A) (p : Workplace L A) (id workers : ℕ) : Type 0 where
  pub at : IsReadyAt d p
  pub own : p.worker.id ≡ id
  pub of : p.worker.workers ≡ workers
  pub there : id < workers
  pub few : workers ≤ MAX_WORKERS
  pub boxes : workers ≤ length d.boxes

-- the committer is at the desk: it has the whole of the ledger of what is acknowledged, which is
-- just these entries, and has seen the book with just these
pub record CanCommit {L A : Type 0} (t : Task) (parts : ℕ) (d : Desk L A) (c : CommitterPlace L A) (kids : List Kid) : Type 0 where
  pub outside : IsOutside d.lock.place c.pass
  pub seen : HasSeen t kids (view c.pass).seen
  pub whole : c.share.parts ≡ parts
  pub some : 0 < parts
  pub counted : c.share.amount ≡ length kids
