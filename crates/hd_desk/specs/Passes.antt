-- What contracts say of a lock's passes. (Our own.)
use Rattle.std.specs.Prelude.{◌≡◌, ℕ, ◌<◌, true, false, List, map, Option, Some}
use Rattle.std.specs.List.{sum_by, AllByRecursion}
use Rattle.crossbeam_queue.specs.declared.array_queue.Doing.{Doing}
use Rattle.crossbeam_queue.specs.declared.array_queue.Slotted.{Slotted}
use Rattle.crossbeam_queue.specs.Passes.{Pass, view, IsPassOf}
use Rattle.hd_desk.specs.declared.view.Seen.{Seen}
use Rattle.hd_desk.specs.declared.view.View.{View}
use Rattle.hd_desk.specs.Views.{GoesOnFrom}

module _ {B T I Q A : Type 0} where
  -- it is a pass of the lock with this queue, and the value is not with it
  abbrev pub IsOutside : Slotted (Option B) (Doing B (View T I)) Q A → Pass B (View T I) → Type 0
  IsOutside place pass = IsPassOf place pass × (0 < (view pass).parts) × ((view pass).inside ≡ false)

  -- it is a pass of the lock with this queue, and the value is with it
  abbrev pub IsInside : Slotted (Option B) (Doing B (View T I)) Q A → Pass B (View T I) → Type 0
  IsInside place pass = IsPassOf place pass × (0 < (view pass).parts) × ((view pass).inside ≡ true)

module _ {B T I : Type 0} where
  -- the parts of some passes
  abbrev pub parts_in : List (Pass B (View T I)) → ℕ
  parts_in passes = sum_by (λ (p : Pass B (View T I)). (view p).parts) passes

  -- what each of some passes last saw
  abbrev pub seen_in : List (Pass B (View T I)) → List (Seen T I)
  seen_in passes = map (λ (p : Pass B (View T I)). (view p).seen) passes

  -- the value of this task and log goes on from what the pass last saw
  abbrev pub IsSeenIn : T → List I → Pass B (View T I) → Type 0
  IsSeenIn task log pass = GoesOnFrom (Some task) log (view pass).seen

module _ {T I : Type 0} where
  -- the value of this task and log goes on from each of what was seen
  abbrev pub AreSeenIn : T → List I → List (Seen T I) → Type 0
  AreSeenIn task log told = AllByRecursion (GoesOnFrom (Some task) log) told
