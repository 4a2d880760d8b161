use Rattle.std.proofs.Common.{◌≡◌, length}
use Rattle.hd_names.specs.Scope.{with_supertypes}
use Rattle.hd_names.proofs.types.add_supertypes.Given as goal

abbrev pub invariant-loop-rest : goal.invariant-loop-rest
invariant-loop-rest l = with_supertypes l.names l.rest ≡ with_supertypes l.fn.names l.listed

abbrev pub decreases-loop-rest : goal.decreases-loop-rest
decreases-loop-rest l = length l.rest
