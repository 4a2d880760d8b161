use Rattle.std.proofs.Common.{◌≡◌, ◌++◌, [], length}
use Rattle.hd_check.specs.Initial.{initial_fault, first_atoms, first_values}
use Rattle.hd_check.proofs.initial.initial_of.Given as goal

-- what is left holds the first fault, and is still to come
abbrev pub invariant-loop-rest : goal.invariant-loop-rest
invariant-loop-rest l = record {
  fault : initial_fault l.scope l.found.given l.rest ≡ initial_fault l.scope [] l.init;
  atoms : l.found.atoms.items ++ first_atoms l.scope l.rest ≡ first_atoms l.scope l.init;
  values : l.found.values.items ++ first_values l.scope l.rest ≡ first_values l.scope l.init;
}

abbrev pub decreases-loop-rest : goal.decreases-loop-rest
decreases-loop-rest l = length l.rest
