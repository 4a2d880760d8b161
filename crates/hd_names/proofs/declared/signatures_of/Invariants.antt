use Rattle.std.proofs.Common.{◌≡◌, ◌++◌, [], length, map}
use Rattle.hd_names.specs.Names.{types_of}
use Rattle.hd_names.specs.Scope.{signatures_fault}
use Rattle.hd_names.proofs.declared.signatures_of.Given as goal

-- what is left holds the first fault, and is still to come
abbrev pub invariant-loop-rest : goal.invariant-loop-rest
invariant-loop-rest l = record {
  fault : signatures_fault l.types l.names l.rest ≡ signatures_fault l.types [] l.declared;
  names : l.names ++ map (λ s. s.name.name) l.rest ≡ map (λ s. s.name.name) l.declared;
  types : l.items.items ++ map (λ s. types_of l.types s.parameters) l.rest ≡ map (λ s. types_of l.types s.parameters) l.declared;
}

abbrev pub decreases-loop-rest : goal.decreases-loop-rest
decreases-loop-rest l = length l.rest
