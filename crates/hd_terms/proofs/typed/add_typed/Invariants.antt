use Rattle.std.proofs.Common.{◌≡◌, ◌+◌, ◌++◌, [], length}
use Rattle.hd_forms.specs.View.{forms_view}
use Rattle.hd_terms.specs.Reading.{items_read, behind_items, typed_after}
use Rattle.hd_terms.specs.Typed.{with_type}
use Rattle.hd_terms.proofs.typed.add_typed.Given as goal

abbrev pub decreases-loop-rest : goal.decreases-loop-rest
decreases-loop-rest l = length l.rest

abbrev pub invariant-loop-rest : goal.invariant-loop-rest
invariant-loop-rest l =
    typed_after l.kind (forms_view l.rest) l.found.items [] ≡ typed_after l.kind (forms_view l.forms) l.initial.found.items []
