-- What passes know, and how it changes. (Our own.)
use Rattle.std.specs.Prelude.{◌≡◌, ◌+◌, ◌-◌, true, false, List, [], ◌∷◌, ◌++◌, Option, Some, None}
use Rattle.hd_base.specs.Lists.{BeginsWith}
use Rattle.hd_desk.specs.declared.rule.TheConstants.{ALL_PARTS}
use Rattle.hd_desk.specs.declared.view.Seen.{Seen}
use Rattle.hd_desk.specs.declared.view.View.{View}

module _ {T I : Type 0} where
  -- what is seen of a value of this task with this log
  abbrev pub seen_of : T → List I → Seen T I
  seen_of task log = record { task = Some task; log = log }

  -- what was seen is of this task, and the log begins with the one that was seen
  abbrev pub GoesOnFrom : Option T → List I → Seen T I → Type 0
  GoesOnFrom task log s = (s.task ≡ task) × BeginsWith log s.log

  -- the first pass of a lock that has no value yet: it is inside, with every part
  abbrev pub unopened : View T I
  unopened = record { seen = record { task = None; log = [] }; told = []; inside = true; parts = ALL_PARTS }

  -- the first pass once the value has come: it has seen it, and is outside
  abbrev pub opened : T → List I → View T I
  opened task log = record { seen = seen_of task log; told = []; inside = false; parts = ALL_PARTS }

  -- a pass that has taken the value: it has seen just that, and is inside
  abbrev pub entered : View T I → T → List I → View T I
  entered v task log = record v { seen = seen_of task log; inside = true }

  -- a pass that has given the value back: it has seen just that, and is outside
  abbrev pub left : View T I → T → List I → View T I
  left v task log = record v { seen = seen_of task log; inside = false }

  -- a pass that has given a part away
  abbrev pub less_one : View T I → View T I
  less_one v = record v { parts = v.parts - 1 }

  -- the pass that has this part: it has seen as much
  abbrev pub another_of : View T I → View T I
  another_of v = record { seen = v.seen; told = []; inside = false; parts = 1 }

  -- a pass that has taken another in: it has its parts, and was told what it had seen
  abbrev pub with_told : View T I → View T I → View T I
  with_told v w = record v { told = v.told ++ w.seen ∷ []; parts = v.parts + w.parts }

  -- what is left of the pass that was taken in
  abbrev pub spent : View T I
  spent = record { seen = record { task = None; log = [] }; told = []; inside = false; parts = 0 }
