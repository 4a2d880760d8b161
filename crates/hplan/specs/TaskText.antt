-- How a task's actions are printed: alone, in a departure, and by number with what else the task
-- has. (Our own.)
use Rattle.std.specs.Prelude.{ℕ, List, [], ◌++◌, length, Option, Some, None, codes, decimal, slice_get, flat_map}
use Rattle.hd_plan.specs.PlanText.{line_end}
use Rattle.hd_task.specs.declared.action.Action.{Action}
use Rattle.hd_task.specs.declared.task.Task.{Task}
use Rattle.hd_task.specs.declared.departure.DepartsBy.{DepartsBy}
use Rattle.hd_task.specs.declared.departure.DepartsBy.TheVariants as departs
use Rattle.hd_task.specs.declared.departure.Departure.{Departure}
use Rattle.hd_task.specs.FormText.{form_text}
use Rattle.hd_task.specs.Effects.{numbers_below}

-- the ground form of an action that may not be there
abbrev pub form_of_action : Task → Option Action → List ℕ
form_of_action t None = []
form_of_action t (Some a) = form_text t.names.schemas t.names.objects a.form

-- the ground form of the action with this number
abbrev pub action_form_text : Task → ℕ → List ℕ
action_form_text t n = form_of_action t (slice_get t.actions n)

-- what leaves the range at an entry
abbrev pub departing_text : Task → DepartsBy → List ℕ
departing_text t departs.Goal = codes "goal"
departing_text t (departs.Action n) = action_form_text t n

-- a departure, as it is told
abbrev pub departure_text : Task → Departure → List ℕ
departure_text t d = codes "range left: entry " ++ decimal d.entry ++ codes ", " ++ departing_text t d.by

-- the line that counts something
abbrev pub count_line : List ℕ → ℕ → List ℕ
count_line what n = what ++ codes " " ++ decimal n ++ line_end

-- the line of the action with this number
abbrev pub numbered_line : Task → ℕ → List ℕ
numbered_line t n = decimal n ++ codes " " ++ action_form_text t n ++ line_end

-- the lines of all actions, in the order of their numbers
abbrev pub numbered_lines : Task → List ℕ
numbered_lines t = flat_map (numbered_line t) (numbers_below (length t.actions))

-- a task: how many actions, atoms and fluents it has, a line each, and then its actions
abbrev pub task_text : Task → List ℕ
task_text t =
    count_line (codes "actions") (length t.actions)
    ++ count_line (codes "atoms") (length t.atoms)
    ++ count_line (codes "fluents") (length t.fluents)
    ++ numbered_lines t
