-- When what a lifted task is grounded to fits together. (Our own.)
use Rattle.std.specs.Prelude.{Bool, List, [], map, is_some}
use Rattle.hd_lifted.specs.declared.schema.Ground.{Ground}
use Rattle.hd_lifted.specs.declared.task.LiftedTask.{LiftedTask}
use Rattle.hd_task.specs.declared.action.Action.{Action}
use Rattle.hd_task.specs.declared.task.Task.{Task}
use Rattle.hd_task.specs.WellFormed.{parts_fit}
use Rattle.hd_task.specs.Parts.{HasParts}
use Rattle.hd_grounding.specs.Images.{condition_of}
use Rattle.hd_grounding.specs.Grounding.{names_in, form_of, start_in}

-- the parts that a grounding has, with these atoms and fluents and these actions, fit together
abbrev pub grounded_parts_fit : LiftedTask → List Ground → List Ground → List Action → Bool
grounded_parts_fit t atoms fluents actions =
    parts_fit (names_in t) (map form_of atoms) (map form_of fluents) (start_in t atoms fluents) actions
    (condition_of atoms fluents [] t.goal) (is_some t.metric)

-- a task has exactly these parts
abbrev pub HasGroundedParts : LiftedTask → List Ground → List Ground → List Action → Task → Type 0
HasGroundedParts t atoms fluents actions u =
    HasParts (names_in t) (map form_of atoms) (map form_of fluents) (start_in t atoms fluents) actions
    (condition_of atoms fluents [] t.goal) (is_some t.metric) u
