use Rattle.hd_texts.proofs.Explaining.{check_explained}
use Rattle.hd_texts.proofs.tasks.checked_by.Goals as goal

pub returns-in-Err-clause-refusal : goal.returns-in-Err-clause-refusal
returns-in-Err-clause-refusal g c =
    rw c.checked_in.ensures
    (check_explained c.args.domain.now c.args.problem.now c.in_ok-domain.domain c.in_ok-domain.problem c.in-Err.error
    c.in_ok-domain.ensures.found c.in-Err.ensures)
