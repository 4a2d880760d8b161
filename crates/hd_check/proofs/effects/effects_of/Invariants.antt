use Rattle.std.proofs.Common.{◌≡◌, ◌++◌, length}
use Rattle.hd_check.specs.Effects.{effects_fault, adds_in, deletes_in, changes_in}
use Rattle.hd_check.proofs.effects.effects_of.Given as goal

-- what is left holds the first fault, and stands for what is still to come
abbrev pub invariant-loop-rest : goal.invariant-loop-rest
invariant-loop-rest l = record {
  fault : effects_fault l.context.scope.now l.context.parameters.now l.rest ≡ effects_fault l.context.scope.now l.context.parameters.now l.parts;
  deletes : l.found.deletes.items ++ deletes_in l.context.scope.now l.context.parameters.now l.rest ≡ deletes_in l.context.scope.now l.context.parameters.now l.parts;
  adds : l.found.adds.items ++ adds_in l.context.scope.now l.context.parameters.now l.rest ≡ adds_in l.context.scope.now l.context.parameters.now l.parts;
  changes : l.found.changes.items ++ changes_in l.context.scope.now l.context.parameters.now l.rest ≡ changes_in l.context.scope.now l.context.parameters.now l.parts;
}

abbrev pub decreases-loop-rest : goal.decreases-loop-rest
decreases-loop-rest l = length l.rest
