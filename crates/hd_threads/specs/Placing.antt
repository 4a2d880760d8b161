-- A worker at its place. (Our own; the search is HDA*, Kishimoto, Fukunaga and Botea 2013.)
use Rattle.std.specs.Prelude.{◌≡◌, ◌+◌, ◌<◌, [], Some}
use Rattle.crossbeam_queue.specs.Passes.{view}
use Rattle.hd_desk.specs.Passes.{IsOutside}
use Rattle.hd_base.specs.Lists.{BeginsWith}
use Rattle.hd_desk.specs.Hands.{IsFor, parts_of}
use Rattle.hd_worker.specs.Lookup.{IsLookupOf}
use Rattle.hd_threads.specs.declared.working.Committed.{Committed}
use Rattle.hd_threads.specs.declared.working.Committed.TheVariants.{Taken, Halted, Idle}
use Rattle.hd_threads.specs.declared.placing.Desk.{Desk}
use Rattle.hd_threads.specs.declared.placing.Workplace.{Workplace}

-- a worker's place is at a desk: its pass, seat and hands are of that, and all that it has is of
-- the task that its pass has seen
pub record IsSeated {L A : Type 0} (d : Desk L A) (p : Workplace L A) : Type 0 where
  pub outside : IsOutside d.lock.place p.pass
  pub task : (view p.pass).seen.task ≡ Some p.worker.task
  pub part : 0 < p.share.parts
  pub seat : p.seat.of ≡ d.bound.of
  pub hands : IsFor d.boxes p.hands
  pub parcels : p.worker.task ≡ p.hands.of
  pub lookup : IsLookupOf p.worker.task p.lookup

-- a worker is at a desk between two turns: the batch that it gave last is numbered
pub record IsReadyAt {L A : Type 0} (d : Desk L A) (p : Workplace L A) : Type 0 where
  pub seated : IsSeated d p
  pub numbered : p.worker.given ≡ []

-- what a worker keeps: its passes, its share and its seat have as many parts as before, its pass
-- has seen no less, and its task is the same
pub record Keeps {L A : Type 0} (p p' : Workplace L A) : Type 0 where
  pub parts : (view p'.pass).parts ≡ (view p.pass).parts
  pub share : p'.share.parts ≡ p.share.parts
  pub seat : p'.seat.parts ≡ p.seat.parts
  pub hands : parts_of p'.hands ≡ parts_of p.hands
  pub grows : BeginsWith (view p'.pass).seen.log (view p.pass).seen.log
  pub task : p'.worker.task ≡ p.worker.task

-- what it keeps while it is not in the lock: its pass and its share are as before, and it has as
-- much room for what its tickets release
pub record IsStill {L A : Type 0} (p p' : Workplace L A) : Type 0 where
  pub pass : p'.pass ≡ p.pass
  pub share : p'.share ≡ p.share
  pub seat : p'.seat.parts ≡ p.seat.parts
  pub hands : parts_of p'.hands ≡ parts_of p.hands
  pub task : p'.worker.task ≡ p.worker.task
  pub room : p'.worker.room ≡ p.worker.room

-- a worker's place is at a desk again, and keeps what a worker keeps
pub record StaysSeated {L A : Type 0} (d : Desk L A) (p p' : Workplace L A) : Type 0 where
  pub seated : IsSeated d p'
  pub keeps : Keeps p p'

-- a worker is at a desk between two turns again, and keeps what a worker keeps
pub record IsBackAt {L A : Type 0} (d : Desk L A) (p p' : Workplace L A) : Type 0 where
  pub at : IsReadyAt d p'
  pub keeps : Keeps p p'

-- a worker is at a desk between two turns still, and keeps what it keeps outside the lock
pub record StaysAt {L A : Type 0} (d : Desk L A) (p p' : Workplace L A) : Type 0 where
  pub at : IsReadyAt d p'
  pub still : IsStill p p'

-- what became of a worker's next batch, where the search goes on: it is at the desk, with so much
-- more room as the batch may release
abbrev pub IsAfterCommit : {L A : Type 0} → Desk L A → Workplace L A → Workplace L A → Committed → Type 0
IsAfterCommit d p p' (Taken held) = IsReadyAt d p' × (p'.worker.room ≡ p.worker.room + held.kids)
IsAfterCommit d p p' Halted = Unit {0}
IsAfterCommit d p p' Idle = IsReadyAt d p' × (p'.worker.room ≡ p.worker.room)
