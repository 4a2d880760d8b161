use Rattle.std.proofs.Common.{◌≡◌, ◌++◌, length}
use Rattle.hd_check.specs.Conditions.{condition_fault, literals_in, equalities_in, comparisons_in}
use Rattle.hd_check.proofs.conditions.condition_of.Given as goal

-- what is left holds the first fault, and stands for what is still to come
abbrev pub invariant-loop-rest : goal.invariant-loop-rest
invariant-loop-rest l = record {
  fault : condition_fault l.context.scope.now l.context.parameters.now l.rest ≡ condition_fault l.context.scope.now l.context.parameters.now l.parts;
  literals : l.found.literals.items ++ literals_in l.context.scope.now l.context.parameters.now l.rest ≡ literals_in l.context.scope.now l.context.parameters.now l.parts;
  equalities : l.found.equalities.items ++ equalities_in l.context.scope.now l.context.parameters.now l.rest ≡ equalities_in l.context.scope.now l.context.parameters.now l.parts;
  comparisons : l.found.comparisons.items ++ comparisons_in l.context.scope.now l.context.parameters.now l.rest ≡ comparisons_in l.context.scope.now l.context.parameters.now l.parts;
}

abbrev pub decreases-loop-rest : goal.decreases-loop-rest
decreases-loop-rest l = length l.rest
