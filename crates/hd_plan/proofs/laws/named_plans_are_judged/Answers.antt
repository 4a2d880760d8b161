use Rattle.hd_plan.proofs.Judged.{validated-no_fault, judged, first_fault-one, one_cost_by}
use Rattle.hd_plan.proofs.laws.named_plans_are_judged.Goals as goal

pub returns-clause-never_both : goal.returns-clause-never_both
returns-clause-never_both c = validated-no_fault

pub returns-clause-never_neither : goal.returns-clause-never_neither
returns-clause-never_neither c = judged

pub returns-clause-one_fault : goal.returns-clause-one_fault
returns-clause-one_fault c = first_fault-one

pub returns-clause-one_cost : goal.returns-clause-one_cost
returns-clause-one_cost c = one_cost_by
