-- What each step of the lock reports the pass that takes it. (Our own.)
use Rattle.std.specs.Prelude.{◌≡◌, List, [], length, Some}
use Rattle.std.specs.List.{AllByRecursion}
use Rattle.hd_desk.specs.declared.rule.TheConstants.{ALL_PARTS}
use Rattle.hd_desk.specs.declared.view.View.{View}
use Rattle.hd_desk.specs.Views.{GoesOnFrom, opened, entered, left}

module _ {B T I : Type 0} (task : B → T) (log : B → List I) where
  -- the value came
  abbrev pub Opened : View T I → B → View T I → Type 0
  Opened v b w = w ≡ opened (task b) (log b)

  -- the pass took the value, which goes on from what the pass saw and from what it was told
  pub record Entered (v : View T I) (b : B) (w : View T I) : Type 0 where
    pub becomes : w ≡ entered v (task b) (log b)
    pub seen : GoesOnFrom (Some (task b)) (log b) v.seen
    pub told : AllByRecursion (GoesOnFrom (Some (task b)) (log b)) v.told

  -- the pass gave the value back
  abbrev pub Left : View T I → B → View T I → Type 0
  Left v b w = w ≡ left v (task b) (log b)

module _ {B T I : Type 0} where
  -- the value lies in the queue
  abbrev pub IsThere : View T I → List B → Type 0
  IsThere v items = length items ≡ 1

  -- the value lies in the queue, where the pass has every part
  abbrev pub IsThereAlone : View T I → List B → Type 0
  IsThereAlone v items = v.parts ≡ ALL_PARTS → length items ≡ 1

  -- the queue is empty
  abbrev pub IsGone : View T I → List B → Type 0
  IsGone v items = items ≡ []
