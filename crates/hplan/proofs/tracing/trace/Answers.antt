use Rattle.hplan.specs.Traces.{InTexts, InPlan}
use Rattle.hplan.proofs.tracing.trace.Goals as goal

pub returns-in-Err-text-clause-refusal : goal.returns-in-Err-text-clause-refusal
returns-in-Err-text-clause-refusal c = InPlan c.in-Err-text.fault c.in-Err-text.ensures.refusal

pub returns-in-Err-clause-refusal : goal.returns-in-Err-clause-refusal
returns-in-Err-clause-refusal c = rw c.from.ensures (InTexts c.in-Err.fault c.in-Err.ensures.refusal)
