use Rattle.hd_judge.proofs.Along.{validated-from_faultless, faultless-from_validated}
use Rattle.hd_judge.proofs.laws.faultless_plans_are_validated.Goals as goal

pub returns : goal.returns
returns c = record { validated = validated-from_faultless; faultless = faultless-from_validated }
