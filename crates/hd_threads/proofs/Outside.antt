-- A pass that is outside again, from call to call.
use Rattle.std.proofs.Common.{Option, refl, ◌∙◌}
use Rattle.crossbeam_queue.specs.declared.array_queue.Doing.{Doing}
use Rattle.crossbeam_queue.specs.declared.array_queue.Slotted.{Slotted}
use Rattle.crossbeam_queue.specs.Passes.{Pass, view}
use Rattle.hd_desk.specs.declared.view.View.{View}
use Rattle.hd_desk.specs.Passes.{IsOutside}
use Rattle.hd_threads.specs.Outside.{IsOutsideAgain}
use Rattle.hd_threads.proofs.Begins.{begins_itself, begins_along}

module _ {B T I Q A : Type 0} where
  -- a pass that was not used
  pub outside_itself : (place : Slotted (Option B) (Doing B (View T I)) Q A) (p : Pass B (View T I)) → IsOutside place p → IsOutsideAgain place p p
  outside_itself place p outside = record { outside = outside; parts = refl; task = refl; grows = begins_itself (view p).seen.log }

  -- a pass after two calls
  pub outside_along :
      (place : Slotted (Option B) (Doing B (View T I)) Q A) (p q r : Pass B (View T I))
      → IsOutsideAgain place p q → IsOutsideAgain place q r → IsOutsideAgain place p r
  outside_along place p q r x y = record {
    outside = y.outside;
    parts = y.parts ∙ x.parts;
    task = y.task ∙ x.task;
    grows = begins_along (view r).seen.log (view q).seen.log (view p).seen.log y.grows x.grows;
  }
