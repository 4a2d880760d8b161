use Rattle.hd_grounding.proofs.Told.{one_undefined, one_negative, not_both}
use Rattle.hd_grounding.proofs.laws.faults_are_one.Goals as goal

pub returns : goal.returns
returns c = record {
  undefined = one_undefined;
  negative = one_negative;
  undefined_first = not_both;
  too_large_first = λ t g large fault. fault.fits large;
  too_large_alone = λ t i large fault. fault.fits large;
}
