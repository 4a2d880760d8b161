use Rattle.std.proofs.Common.{◌≡◌, [], length}
use Rattle.hd_forms.specs.View.{forms_view}
use Rattle.hd_pddl.specs.Reading.{signatures_after}
use Rattle.hd_pddl.proofs.sections.signatures_of.Given as goal

abbrev pub invariant-loop-rest : goal.invariant-loop-rest
invariant-loop-rest l = signatures_after (forms_view l.rest) l.signatures.items ≡ signatures_after (forms_view l.forms) []

abbrev pub decreases-loop-rest : goal.decreases-loop-rest
decreases-loop-rest l = length l.rest
