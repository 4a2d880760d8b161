-- The text of a plan: each step on a line, then the cost. (A rule of this project.)
use Rattle.std.specs.Prelude.{ℕ, List, [], ◌∷◌, ◌++◌, codes, decimal, flat_map}
use Rattle.hd_plan.specs.declared.step.Step.{Step}

-- the end of a line
abbrev pub line_end : List ℕ
line_end = 10 ∷ []

-- an object after a space
abbrev pub arg_text : List ℕ → List ℕ
arg_text arg = codes " " ++ arg

-- a step: its name and its objects in parentheses, with single spaces
abbrev pub step_text : Step → List ℕ
step_text s = codes "(" ++ s.name ++ flat_map arg_text s.args ++ codes ")"

-- the line of a step
abbrev pub step_line : Step → List ℕ
step_line s = step_text s ++ line_end

-- the line of a cost
abbrev pub cost_line : ℕ → List ℕ
cost_line cost = codes "; cost = " ++ decimal cost ++ line_end

-- the steps of a plan, a line each, and its cost
abbrev pub plan_text : List Step → ℕ → List ℕ
plan_text steps cost = flat_map step_line steps ++ cost_line cost
