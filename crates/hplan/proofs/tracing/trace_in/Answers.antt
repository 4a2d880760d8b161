use Rattle.hplan.specs.Traces.{Memory}
use Rattle.hplan.proofs.tracing.trace_in.Goals as goal

pub returns-in-Err-text-clause-refusal : goal.returns-in-Err-text-clause-refusal
returns-in-Err-text-clause-refusal c = Memory
