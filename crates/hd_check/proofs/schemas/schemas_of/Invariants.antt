use Rattle.std.proofs.Common.{◌≡◌, ◌++◌, [], length, map}
use Rattle.hd_check.specs.Schemas.{actions_fault, lifted_schema}
use Rattle.hd_check.proofs.schemas.schemas_of.Given as goal

-- what is left holds the first fault, and is still to come
abbrev pub invariant-loop-rest : goal.invariant-loop-rest
invariant-loop-rest l = record {
  fault : actions_fault l.scope l.names l.rest ≡ actions_fault l.scope [] l.actions;
  schemas : l.schemas.items ++ map (lifted_schema l.scope) l.rest ≡ map (lifted_schema l.scope) l.actions;
}

abbrev pub decreases-loop-rest : goal.decreases-loop-rest
decreases-loop-rest l = length l.rest
