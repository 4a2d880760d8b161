use Rattle.std.proofs.Common.{ap, ◌∙◌, List}
use Rattle.hd_lifted.specs.declared.schema.Ground.{Ground}
use Rattle.hd_lifted.specs.declared.task.InitialValue.{InitialValue}
use Rattle.hd_lifted.specs.States.{is_listed, first_value}
use Rattle.hd_judge.proofs.Beginning.{is_start}
use Rattle.hd_judge.proofs.judging.begin.Goals as goal

pub returns-in-Ok-clause-start : goal.returns-in-Ok-clause-start
returns-in-Ok-clause-start c =
    is_start c.args.task.now c.in_ok-truths.truths c.in-Ok.numbers
    (λ g. c.in_ok-truths.ensures g ∙ ap (λ (xs : List Ground). is_listed xs g) c.as_slice.ensures)
    (λ g. c.in-Ok.ensures g ∙ ap (λ (xs : List InitialValue). first_value xs g) c.as_slice-2.ensures)
