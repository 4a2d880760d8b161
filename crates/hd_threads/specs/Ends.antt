-- How the threads of workers end. (Our own.)
use Rattle.std.specs.Prelude.{ℕ, List, [], ◌∷◌, Option, None}
use Rattle.std.specs.Option.{option_or}
use Rattle.hd_threads.specs.declared.fault.RunFault.{RunFault}

-- the end of the thread of a worker of a number: the fault by which it ended, if it was one
pub record EndView : Type 0 where
  pub id : ℕ
  pub fault : Option RunFault

-- the first fault of ends, in their order, if there is one
abbrev pub first_fault : List EndView → Option RunFault
first_fault [] = None
first_fault (e ∷ ends) = option_or e.fault (first_fault ends)
