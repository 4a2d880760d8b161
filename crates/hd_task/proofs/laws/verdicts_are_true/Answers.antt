use Rattle.hd_task.proofs.Optimal.{optimal, each_optimal, no_plan}
use Rattle.hd_task.proofs.laws.verdicts_are_true.Goals as goal

pub returns : goal.returns
returns c = record {
  optimal = λ t h expanded b done e. optimal t h done.admissible expanded done.in_range done.covered b e;
  each_optimal = λ t h expanded b done e p at. each_optimal t h done.admissible expanded done.in_range done.covered b e p at;
  no_plan = λ t h expanded done e. no_plan t h done.admissible expanded done.in_range done.covered e;
}
