-- What a call leaves of a pass that it enters the lock with. (Our own.)
use Rattle.std.specs.Prelude.{◌≡◌, Option}
use Rattle.crossbeam_queue.specs.declared.array_queue.Doing.{Doing}
use Rattle.crossbeam_queue.specs.declared.array_queue.Slotted.{Slotted}
use Rattle.crossbeam_queue.specs.Passes.{Pass, view}
use Rattle.hd_base.specs.Lists.{BeginsWith}
use Rattle.hd_desk.specs.declared.view.View.{View}
use Rattle.hd_desk.specs.Passes.{IsOutside}

-- The pass is outside the lock again, with as many parts as before. It has seen the same task, and
-- a log that begins with the one that it had seen.
pub record IsOutsideAgain {B T I Q A : Type 0} (place : Slotted (Option B) (Doing B (View T I)) Q A) (old new : Pass B (View T I)) : Type 0 where
  pub outside : IsOutside place new
  pub parts : (view new).parts ≡ (view old).parts
  pub task : (view new).seen.task ≡ (view old).seen.task
  pub grows : BeginsWith (view new).seen.log (view old).seen.log
