-- Ground forms that are met, each noted once. (Our own.)
use Rattle.std.specs.Prelude.{◌≡◌, ◌≤◌, ℕ, if◌then◌else◌, List, [], ◌∷◌, ◌++◌, length, map, Contains}
use Rattle.std.specs.List.{fold}
use Rattle.hd_lifted.specs.declared.schema.Ground.{Ground}
use Rattle.hd_lifted.specs.declared.schema.Literal.{Literal}
use Rattle.hd_lifted.specs.declared.task.LiftedTask.{LiftedTask}
use Rattle.hd_lifted.specs.States.{is_listed, ground_form_of}

-- a form goes after the others, if it is none of them yet
abbrev pub with_form : List Ground → Ground → List Ground
with_form forms g = if is_listed forms g then forms else forms ++ g ∷ []

-- the same of several, one after the other
abbrev pub with_forms : List Ground → List Ground → List Ground
with_forms forms gs = fold with_form forms gs

-- forms that were met, each once: all of them, or more than the limit
pub record IsMet (limit : ℕ) (met forms : List Ground) : Type 0 where
  pub within : (g : Ground) → Contains forms g → Contains met g
  pub whole : length forms ≤ limit → forms ≡ with_forms [] met

-- ---- atoms

-- the atom of a goal's literal, which has no parameters
abbrev pub goal_atom : Literal → Ground
goal_atom l = ground_form_of [] l.atom

-- the atoms that the goal names, also to be false
abbrev pub goal_atoms : LiftedTask → List Ground
goal_atoms t = map goal_atom t.goal.literals
