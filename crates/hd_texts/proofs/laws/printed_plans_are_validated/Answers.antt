use Rattle.hd_texts.proofs.Valid.{validated_by}
use Rattle.hd_texts.proofs.laws.printed_plans_are_validated.Goals as goal

pub returns : goal.returns
returns c t u p cost made = validated_by t u made p cost
