-- The text of a plan of a task: that of its steps, by their names, at the cost that it has by the
-- task. (Our own.)
use Rattle.std.specs.Prelude.{ℕ, Bool, true, false, ◌&&◌, List, [], ◌∷◌, ◌++◌, Option, Some, None, codes, option_and_then}
use Rattle.hd_plan.specs.PlanText as plans
use Rattle.hd_plan.specs.PlanText.{line_end}
use Rattle.hd_plan.specs.declared.step.Step.{Step}
use Rattle.hd_task.specs.declared.task.Task.{Task}
use Rattle.hd_task.specs.Plans.{Node, start, step_by, exec}
use Rattle.hd_task.specs.Expansions.{is_applicable}
use Rattle.hd_texts.specs.Printing.{steps_of}
use Rattle.hplan.specs.declared.naming.NamedPlan.{NamedPlan}
use Rattle.hplan.specs.declared.told.Ending.{Ending}
use Rattle.hplan.specs.declared.told.Ending.TheVariants.{Optimal, NoPlan, RangeLeft, Stopped}

-- a plan's text at a cost
abbrev pub plan_at : Task → List ℕ → ℕ → List ℕ
plan_at t p cost = plans.plan_text (steps_of t p) cost

-- the text of a plan that leads to this node
abbrev pub plan_to : Task → List ℕ → Option Node → List ℕ
plan_to t p None = []
plan_to t p (Some r) = plan_at t p r.cost

-- the text of a plan, with the cost that it has by the task
abbrev pub task_plan_text : Task → List ℕ → List ℕ
task_plan_text t p = plan_to t p (exec t p)

-- the text of a plan by its names that may be there
abbrev pub printed : Option NamedPlan → List ℕ
printed None = []
printed (Some p) = plans.plan_text p.steps p.cost

-- ---- the file of the best plan so far

-- whether a plan is shown to be optimal
abbrev pub shown_line : Bool → List ℕ
shown_line true = codes "; optimal" ++ line_end
shown_line false = codes "; not shown optimal" ++ line_end

-- the text of a plan by its steps, as it is printed, and after it whether it is shown to be optimal
abbrev pub plan_file_text : List Step → ℕ → Bool → List ℕ
plan_file_text steps cost is_optimal = plans.plan_text steps cost ++ shown_line is_optimal

-- whether the plan of an answer is shown to be optimal
abbrev pub shows_optimal : Ending → Bool
shows_optimal Optimal = true
shows_optimal NoPlan = false
shows_optimal (RangeLeft text) = false
shows_optimal Stopped = false

-- the text of an answer's plan in a file of its own, if the answer has one
abbrev pub file_of_plan : Ending → Option NamedPlan → Option (List ℕ)
file_of_plan ending None = None
file_of_plan ending (Some p) = Some (plan_file_text p.steps p.cost (shows_optimal ending))

-- ---- plans whose steps are applicable

-- from a node on, each step of a plan is applicable
abbrev pub goes_from : Task → Option Node → List ℕ → Bool
goes_from t r [] = true
goes_from t r (n ∷ p) = is_applicable t r n && goes_from t (option_and_then (λ (q : Node). step_by t q n) r) p

-- each step of a plan is applicable: none of them departs
abbrev pub goes_through : Task → List ℕ → Bool
goes_through t p = goes_from t (Some (start t)) p
