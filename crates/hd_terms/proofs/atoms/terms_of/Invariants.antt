use Rattle.std.proofs.Common.{◌≡◌, [], length}
use Rattle.hd_forms.specs.View.{forms_view}
use Rattle.hd_terms.specs.Reading.{terms_after}
use Rattle.hd_terms.proofs.atoms.terms_of.Given as goal

abbrev pub invariant-loop-rest : goal.invariant-loop-rest
invariant-loop-rest l = terms_after (forms_view l.rest) l.terms.items ≡ terms_after (forms_view l.forms) []

abbrev pub decreases-loop-rest : goal.decreases-loop-rest
decreases-loop-rest l = length l.rest
