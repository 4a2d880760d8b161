-- The successors that entries post, as pairs. (Our own; the pairs are those of the journal.)
use Rattle.std.specs.Prelude.{ℕ, ◌+◌, List, [], ◌∷◌, ◌++◌, map}
use Rattle.hd_task.specs.declared.task.Task.{Task}
use Rattle.hd_task.specs.declared.plan.Kid.{Kid}
use Rattle.hd_task.specs.Plans.{exec}
use Rattle.hd_task.specs.Expansions.{applicable_at}
use Rattle.hd_tables.specs.Kids.{root, kid_from}

-- the successors of an entry that is numbered n, by their actions
abbrev pub kids_of : ℕ → List ℕ → List Kid
kids_of n actions = map (kid_from n) actions

-- the successors of entries that are numbered from n on
abbrev pub kids_from : Task → ℕ → List (List ℕ) → List Kid
kids_from t n [] = []
kids_from t n (p ∷ expanded) = kids_of n (applicable_at t (exec t p)) ++ kids_from t (n + 1) expanded

-- what a list of expansions posts: the root, and each entry with each action that is applicable
-- there; in the order of the plans that they name
abbrev pub posted_by : Task → List (List ℕ) → List Kid
posted_by t expanded = root ∷ kids_from t 0 expanded
