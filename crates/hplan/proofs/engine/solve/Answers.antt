use Rattle.hplan.specs.Kept.{InMemory}
use Rattle.hplan.proofs.Solving.{all_written, front_written, not_written}
use Rattle.hplan.proofs.engine.solve.Goals as goal

pub returns-clause-whole : goal.returns-clause-whole
returns-clause-whole g c =
    all_written InMemory c.args.how.limit c.args.domain.now c.args.problem.now _ _ _ c.write_told.result c.in_ok-told.ensures.found c.write_told.ensures.ends
    c.write_told.ensures.whole

pub returns-clause-front : goal.returns-clause-front
returns-clause-front g c =
    front_written InMemory c.args.how.limit c.args.domain.now c.args.problem.now _ _ _ _ _ c.write_told.result c.in_ok-told.ensures.found c.write_told.ensures.refusal

pub returns-clause-refusal : goal.returns-clause-refusal
returns-clause-refusal g c =
    not_written InMemory c.args.how.limit c.args.domain.now c.args.problem.now _ _ _ _ _ c.write_told.result c.in_ok-told.ensures.found c.write_told.ensures.refusal
