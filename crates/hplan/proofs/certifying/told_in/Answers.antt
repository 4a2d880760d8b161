use Rattle.hplan.specs.Certifying.{OfMemory}
use Rattle.hplan.proofs.certifying.told_in.Goals as goal

pub returns-in-Err-clause-refusal : goal.returns-in-Err-clause-refusal
returns-in-Err-clause-refusal g c = OfMemory
