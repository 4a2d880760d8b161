use Rattle.std.proofs.Common.{◌∙◌, ◌++◌, ◌∷◌, [], ℕ, List, ap, ap₂}
use Rattle.hd_task.specs.declared.plan.TheConstants.{ROOT_ACTION}
use Rattle.hd_tables.specs.Places.{kids_by}
use Rattle.hd_tables.proofs.Placing.{first_kids}
use Rattle.hd_tables.proofs.table.KidTable.new.Goals as goal

pub returns-clause-kids : goal.returns-clause-kids
returns-clause-kids c =
    ap₂ kids_by c.new.ensures.items
    (c.push.ensures.items ∙ ap (λ (xs : List ℕ). xs ++ ROOT_ACTION ∷ []) (c.reserve.ensures.items ∙ c.new-actions.ensures.items))
    ∙ first_kids
