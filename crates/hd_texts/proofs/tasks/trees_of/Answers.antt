use Rattle.hd_texts.specs.Tasks.{InDomain, InProblem}
use Rattle.hd_texts.proofs.tasks.trees_of.Goals as goal

pub returns-in-Err-clause-refusal : goal.returns-in-Err-clause-refusal
returns-in-Err-clause-refusal c = rw c.read_in.ensures (InDomain c.in-Err.error c.in-Err.ensures.refusal)

pub returns-in-Err-read_problem-clause-refusal : goal.returns-in-Err-read_problem-clause-refusal
returns-in-Err-read_problem-clause-refusal c =
    rw c.read_in-in-Err-read_problem.ensures
    (InProblem c.in-Ok.domain c.in-Err-read_problem.error c.in-Ok.ensures.found c.in-Err-read_problem.ensures.refusal)
