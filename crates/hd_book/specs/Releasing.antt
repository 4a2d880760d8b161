-- What a ticket releases, by the entries alone. (Our own.)
use Rattle.std.specs.Prelude.{ℕ, ◌+◌, ◌-◌, List, [], ◌∷◌, ◌++◌, Option, Some, None, map, take, drop}
use Rattle.hd_task.specs.declared.task.Task.{Task}
use Rattle.hd_task.specs.declared.plan.Kid.{Kid}
use Rattle.hd_task.specs.Plans.{Node, exec}
use Rattle.hd_node.specs.Children.{children_at}
use Rattle.hd_entries.specs.Holding.{Released, released_from, plans_at}
use Rattle.hd_entries.specs.Releasing.{ParcelsView}

-- the successors of an entry of this number whose plan leads to this node, and where each leads
abbrev pub released_to : Task → ℕ → Option Node → List Released
released_to t n None = []
released_to t n (Some r) = map (released_from n) (children_at t r)

-- those of entries with these plans, in order, which are numbered from n on
abbrev pub released_for : Task → ℕ → List (List ℕ) → List Released
released_for t n [] = []
released_for t n (p ∷ plans) = released_to t n (exec t p) ++ released_for t (n + 1) plans

-- those of a log's entries from one number on and below another: what a ticket of these entries
-- releases
abbrev pub released_in : Task → List Kid → ℕ → ℕ → ParcelsView
released_in t log first end = record { task = t; kids = released_for t first (take (end - first) (drop first (plans_at log))) }
