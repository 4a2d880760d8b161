use Rattle.std.proofs.Common.{◌≡◌, [], false, length}
use Rattle.hd_forms.specs.View.{forms_view}
use Rattle.hd_pddl.specs.Reading.{functions_after}
use Rattle.hd_pddl.proofs.sections.functions_of.Given as goal

abbrev pub invariant-loop-rest : goal.invariant-loop-rest
invariant-loop-rest l = functions_after l.behind (forms_view l.rest) l.functions.items ≡ functions_after false (forms_view l.forms) []

abbrev pub decreases-loop-rest : goal.decreases-loop-rest
decreases-loop-rest l = length l.rest
