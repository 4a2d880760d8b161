use Rattle.std.proofs.Common.{◌≡◌, ◌++◌, length}
use Rattle.hd_names.specs.Names.{names_declared}
use Rattle.hd_names.specs.Scope.{types_fault}
use Rattle.hd_names.proofs.types.declare_types.Given as goal

-- what is left holds the first fault, and is still to come
abbrev pub invariant-loop-rest : goal.invariant-loop-rest
invariant-loop-rest l = record {
  fault : types_fault l.names l.rest ≡ types_fault l.fn.names l.listed;
  names : l.names ++ names_declared l.rest ≡ l.fn.names ++ names_declared l.listed;
}

abbrev pub decreases-loop-rest : goal.decreases-loop-rest
decreases-loop-rest l = length l.rest
