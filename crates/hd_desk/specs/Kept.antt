-- The rule of the lock's queue, which holds at each moment, whatever threads do. (Our own.)
use Rattle.std.specs.Prelude.{◌≡◌, ℕ, ◌+◌, ◌<◌, true, false, List, length, Option, Some, cond}
use Rattle.std.specs.List.{sum_by, AllByRecursion}
use mathlib.Core.Option.{some}
use lib.ListN.{get_elem?}
use Rattle.hd_desk.specs.declared.rule.TheConstants.{ALL_PARTS}
use Rattle.hd_desk.specs.declared.view.View.{View}
use Rattle.hd_desk.specs.Views.{GoesOnFrom}

module _ {T I : Type 0} where
  -- how many parts a pass has
  abbrev pub parts_of : View T I → ℕ
  parts_of v = v.parts

  -- 1 where the value is with the pass
  abbrev pub holders_of : View T I → ℕ
  holders_of v = cond v.inside 1 0

  -- what a pass knows is so, where the value is of this task and has this log; a pass that is
  -- inside has seen the whole log
  pub record Fits (task : Option T) (log : List I) (v : View T I) : Type 0 where
    pub idle : v.parts ≡ 0 → v.inside ≡ false
    pub seen : 0 < v.parts → GoesOnFrom task log v.seen
    pub told : 0 < v.parts → AllByRecursion (GoesOnFrom task log) v.told
    pub whole : v.inside ≡ true → log ≡ v.seen.log

module _ {B T I : Type 0} (task : B → T) (log : B → List I) where
  -- a value that lies in the queue is of this task and has this log
  abbrev pub Lies : Option T → List I → B → Type 0
  Lies of entries b = (Some (task b) ≡ of) × (log b ≡ entries)

  -- the passes have all parts, the value is in one place, in the queue or with one pass, and what
  -- each pass knows is so
  pub record Kept (items : List B) (views : List (View T I)) : Type 0 where
    pub of : Option T
    pub entries : List I
    pub parts : sum_by parts_of views ≡ ALL_PARTS
    pub one : sum_by holders_of views + length items ≡ 1
    pub lies : AllByRecursion (Lies of entries) items
    pub each : (pass : ℕ) (v : View T I) → get_elem? views pass ≡ some v → Fits of entries v
