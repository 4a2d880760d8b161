use Rattle.hd_judge.proofs.Along.{validated-no_fault, first_fault-one, judged}
use Rattle.hd_judge.proofs.laws.plans_are_judged.Goals as goal

pub returns : goal.returns
returns c = record {
  never_both = validated-no_fault;
  never_neither = judged;
  one_fault = first_fault-one;
}
