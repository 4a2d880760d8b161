use Rattle.std.proofs.Common.{inr}
use Rattle.hplan.proofs.reading.task_file.Goals as goal

pub returns-in-Err-read-clause-refusal : goal.returns-in-Err-read-clause-refusal
returns-in-Err-read-clause-refusal g c = inr (c.in-Ok.task, c.in-Ok.ensures.found, (_, c.device_fault.ensures, c.in-Err-read.ensures.missed))
