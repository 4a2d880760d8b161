use Rattle.std.proofs.Common.{◌≡◌, ◌++◌, length}
use Rattle.hd_names.specs.Names.{declared_fault, types_of, names_declared}
use Rattle.hd_names.proofs.declared.declare_all.Given as goal

-- what is left holds the first fault, and is still to come
abbrev pub invariant-loop-rest : goal.invariant-loop-rest
invariant-loop-rest l = record {
  fault : declared_fault l.kind l.types l.names l.rest ≡ declared_fault l.kind l.types l.fn.names l.declared;
  names : l.names ++ names_declared l.rest ≡ l.fn.names ++ names_declared l.declared;
  types : l.numbers.items ++ types_of l.types l.rest ≡ types_of l.types l.declared;
}

abbrev pub decreases-loop-rest : goal.decreases-loop-rest
decreases-loop-rest l = length l.rest
