use Rattle.hd_grounding.proofs.Faulty.{fits, defined, not_negative}
use Rattle.hd_grounding.proofs.laws.faults_leave_no_grounding.Goals as goal

pub returns : goal.returns
returns c = record { too_large = fits; undefined = λ t u g made. defined t u made g; negative = λ t u i made. not_negative t u made i }
