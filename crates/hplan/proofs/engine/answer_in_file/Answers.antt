use Rattle.std.proofs.Common.{refl}
use Rattle.hplan.proofs.Blaming.{search_not_blamed}
use Rattle.hplan.proofs.Solving.{all_answered, none_answered, task_unanswered}
use Rattle.hplan.proofs.engine.answer_in_file.Goals as goal

pub returns-in-Ok-clause-found : goal.returns-in-Ok-clause-found
returns-in-Ok-clause-found g c =
    all_answered _ c.args.how.limit c.args.domain.now c.args.problem.now c.in-Ok.task c.in-Ok.ensures.found _ c.solution_in_file-answer.result c.digest_of-digest.ensures
    c.solution_in_file-answer.ensures.found

pub returns-in-Ok-clause-refusal : goal.returns-in-Ok-clause-refusal
returns-in-Ok-clause-refusal g c =
    none_answered _ c.args.how.limit c.args.domain.now c.args.problem.now c.in-Ok.task c.in-Ok.ensures.found _ c.solution_in_file-answer.result c.digest_of-digest.ensures
    c.solution_in_file-answer.ensures.refusal

pub returns-in-Err-clause-refusal : goal.returns-in-Err-clause-refusal
returns-in-Err-clause-refusal g c =
    task_unanswered _ c.args.how.limit c.args.domain.now c.args.problem.now c.in-Err.fault _ refl c.from.ensures c.in-Err.ensures.refusal

pub returns-in-Ok-clause-untouched : goal.returns-in-Ok-clause-untouched
returns-in-Ok-clause-untouched g c =
    search_not_blamed _ _ _ c.in-Ok.task _ _ c.solution_in_file-answer.result c.solution_in_file-answer.ensures.refusal
