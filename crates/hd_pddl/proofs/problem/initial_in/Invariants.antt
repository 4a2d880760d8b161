use Rattle.std.proofs.Common.{◌≡◌, [], length}
use Rattle.hd_forms.specs.View.{forms_view}
use Rattle.hd_pddl.specs.Reading.{initial_after}
use Rattle.hd_pddl.proofs.problem.initial_in.Given as goal

abbrev pub invariant-loop-rest : goal.invariant-loop-rest
invariant-loop-rest l = initial_after (forms_view l.rest) l.facts.items ≡ initial_after (forms_view l.forms) []

abbrev pub decreases-loop-rest : goal.decreases-loop-rest
decreases-loop-rest l = length l.rest
