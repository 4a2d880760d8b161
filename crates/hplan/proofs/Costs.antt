-- Steps of a plan: where they stop.
use Rattle.std.proofs.Common.{◌≡◌, ℕ, ◌≤◌, false, length, Option, Some, None, slice_get, ap, ◌∙◌}
use Rattle.std.proofs.lemmas.Option.{slice_get_past}
use Rattle.hd_task.specs.declared.action.Action.{Action}
use Rattle.hd_task.specs.declared.task.Task.{Task}
use Rattle.hd_task.specs.Plans.{Node}
use Rattle.hd_task.specs.Applying.{applied_by, goes_on}
use Rattle.hd_task.specs.Expansions.{is_applicable}
use Rattle.hd_task.proofs.Deciding.{applicable-is}

-- an action that is not there
pub no_such : (t : Task) (r : Node) (n : ℕ) → length t.actions ≤ n → is_applicable t (Some r) n ≡ false
no_such t r n past =
    let none : slice_get t.actions n ≡ None = slice_get_past t.actions n past in
    applicable-is t r n ∙ ap (λ (a : Option Action). goes_on r.cost (applied_by t r.state a)) none
