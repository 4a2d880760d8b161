-- A worker from turn to turn. (Our own; the search is HDA*, Kishimoto, Fukunaga and Botea 2013.)
use Rattle.std.specs.Prelude.{ℕ, ◌≤◌, Bool, Option, Result, IfErr, IfSome, OnOk}
use Rattle.std.specs.List.{sum_by}
use Rattle.hd_threads.specs.declared.fault.RunFault.{RunFault}
use Rattle.hd_threads.specs.declared.working.Held.{Held}
use Rattle.hd_threads.specs.declared.progress.Progress.{Progress}
use Rattle.hd_threads.specs.declared.placing.Desk.{Desk}
use Rattle.hd_threads.specs.declared.placing.Workplace.{Workplace}
use Rattle.hd_threads.specs.Faults.{IsOfWorker}
use Rattle.hd_threads.specs.Placing.{IsSeated, IsReadyAt, Keeps}

-- how many parcels the tickets release at most that a worker holds
abbrev pub kids_held : Progress → ℕ
kids_held r = sum_by (λ (h : Held). h.kids) r.held.items

-- how a search ends for a worker: by one of its faults, or by none
abbrev pub IsWorkerEnd : Option RunFault → Type 0
IsWorkerEnd fault = IfSome fault IsOfWorker

-- a worker can take a turn: it is at a desk between two turns, with room for what its tickets
-- release
pub record CanTurn {L A : Type 0} (d : Desk L A) (p : Workplace L A) (r : Progress) : Type 0 where
  pub at : IsReadyAt d p
  pub room : kids_held r ≤ p.worker.room

-- A worker has done a part of a turn: its place is at a desk, and keeps what a worker keeps. If the
-- search goes on, the worker can take its next turn; else it ends by one of its faults, or by none.
pub record HasTurned {L A : Type 0} (d : Desk L A) (p p' : Workplace L A) (r : Progress) (done : Result Bool (Option RunFault)) : Type 0 where
  pub seated : IsSeated d p'
  pub keeps : Keeps p p'
  pub turns : OnOk done (CanTurn d p' r)
  pub told : IfErr done IsWorkerEnd
