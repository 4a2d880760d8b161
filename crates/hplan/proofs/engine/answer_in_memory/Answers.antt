use Rattle.hplan.specs.Kept.{InMemory}
use Rattle.hplan.proofs.Solving.{all_answered, none_answered, task_unanswered}
use Rattle.hplan.proofs.engine.answer_in_memory.Goals as goal

pub returns-in-Ok-clause-found : goal.returns-in-Ok-clause-found
returns-in-Ok-clause-found g c =
    all_answered InMemory c.args.how.limit c.args.domain.now c.args.problem.now c.in-Ok.task c.in-Ok.ensures.found _ c.solution_in_memory-answer.result c.digest_of-digest.ensures
    c.solution_in_memory-answer.ensures.found

pub returns-in-Ok-clause-refusal : goal.returns-in-Ok-clause-refusal
returns-in-Ok-clause-refusal g c =
    none_answered InMemory c.args.how.limit c.args.domain.now c.args.problem.now c.in-Ok.task c.in-Ok.ensures.found _ c.solution_in_memory-answer.result c.digest_of-digest.ensures
    c.solution_in_memory-answer.ensures.refusal

pub returns-in-Err-clause-refusal : goal.returns-in-Err-clause-refusal
returns-in-Err-clause-refusal g c =
    task_unanswered InMemory c.args.how.limit c.args.domain.now c.args.problem.now c.in-Err.fault _ tt c.from.ensures c.in-Err.ensures.refusal
