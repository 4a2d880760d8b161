use Rattle.hplan.proofs.Blaming.{output_not_blamed}
use Rattle.hplan.proofs.Solving.{all_written, front_written, not_written}
use Rattle.hplan.proofs.engine.solve_kept.Goals as goal

pub returns-clause-whole : goal.returns-clause-whole
returns-clause-whole g c =
    all_written _ c.args.how.limit c.args.domain.now c.args.problem.now _ _ _ c.write_told.result c.in_ok-told.ensures.found c.write_told.ensures.ends
    c.write_told.ensures.whole

pub returns-clause-front : goal.returns-clause-front
returns-clause-front g c =
    front_written _ c.args.how.limit c.args.domain.now c.args.problem.now _ _ _ _ _ c.write_told.result c.in_ok-told.ensures.found c.write_told.ensures.refusal

pub returns-clause-refusal : goal.returns-clause-refusal
returns-clause-refusal g c =
    not_written _ c.args.how.limit c.args.domain.now c.args.problem.now _ _ _ _ _ c.write_told.result c.in_ok-told.ensures.found c.write_told.ensures.refusal

pub returns-clause-untouched : goal.returns-clause-untouched
returns-clause-untouched g c = output_not_blamed _ _ _ _ _ _ c.write_told.result c.write_told.ensures.refusal
