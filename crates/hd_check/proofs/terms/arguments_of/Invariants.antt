use Rattle.std.proofs.Common.{◌≡◌, ◌++◌, length, map}
use Rattle.hd_check.specs.Terms.{lifted_term, arguments_fault}
use Rattle.hd_check.proofs.terms.arguments_of.Given as goal

-- what is left is as long, holds the first fault, and stands for what is still to come
abbrev pub invariant-loop-rest : goal.invariant-loop-rest
invariant-loop-rest l = record {
  long : length l.rest ≡ length l.types;
  fault : arguments_fault l.context.scope.now l.context.parameters.now l.rest l.types ≡ arguments_fault l.context.scope.now l.context.parameters.now l.terms l.wanted;
  so_far : l.arguments.items ++ map (lifted_term l.context.scope.now l.context.parameters.now) l.rest ≡ map (lifted_term l.context.scope.now l.context.parameters.now) l.terms;
}

abbrev pub decreases-loop-rest : goal.decreases-loop-rest
decreases-loop-rest l = length l.rest
