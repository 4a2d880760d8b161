use Rattle.std.proofs.Common.{ℕ, List, subst}
use Rattle.hd_certify.specs.Survey.{IsTableOf}
use Rattle.hd_certify.proofs.surveying.told_by.Goals as goal

pub returns-clause-depths : goal.returns-clause-depths
returns-clause-depths c = subst (λ (vs : List ℕ). IsTableOf vs c.in_ok-table_of.field-0) c.in_ok-depths_of.ensures c.in_ok-table_of.ensures

pub returns-clause-costs : goal.returns-clause-costs
returns-clause-costs c = subst (λ (vs : List ℕ). IsTableOf vs c.in_ok-table_of-2.field-0) c.in_ok-costs_of.ensures c.in_ok-table_of-2.ensures
