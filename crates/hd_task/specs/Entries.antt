-- The plans that entries name. An entry is an expansion, named by the entry before its last action,
-- and that action. (Our own; the pairs are those of the journal.)
use Rattle.std.specs.Prelude.{ℕ, ◌==◌, if◌then◌else◌, List, [], ◌∷◌, ◌++◌, Option, Some, None, slice_get, option_and_then, fold}
use Rattle.hd_task.specs.declared.plan.Kid.{Kid}
use Rattle.hd_task.specs.declared.plan.TheConstants.{ROOT_PARENT, ROOT_ACTION}
use Rattle.hd_task.specs.Expansions.{followed_by}

-- the plan of the parent, if there is one, followed by the action
abbrev pub plan_from : Option (List ℕ) → ℕ → Option (List ℕ)
plan_from None n = None
plan_from (Some p) n = Some (followed_by p n)

-- the plan that a successor names, where the expanded plans are those of the entries before it: the
-- root the empty plan, another the plan of its parent followed by its action. The root's parent
-- with another action, and a parent that is no earlier entry, name nothing
abbrev pub plan_of : List (List ℕ) → Kid → Option (List ℕ)
plan_of expanded k =
    if k.parent == ROOT_PARENT then (if k.action == ROOT_ACTION then Some [] else None) else plan_from (slice_get expanded k.parent) k.action

-- one entry more
abbrev pub with_entry : Option (List (List ℕ)) → Kid → Option (List (List ℕ))
with_entry None k = None
with_entry (Some expanded) k = option_and_then (λ p. Some (expanded ++ p ∷ [])) (plan_of expanded k)

-- the plans that a list of entries names, in order; none where one of them names nothing
abbrev pub plans_of : List Kid → Option (List (List ℕ))
plans_of entries = fold with_entry (Some []) entries
