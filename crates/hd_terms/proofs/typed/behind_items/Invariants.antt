use Rattle.std.proofs.Common.{◌≡◌, ◌+◌, ◌++◌, [], length}
use Rattle.hd_forms.specs.View.{forms_view}
use Rattle.hd_terms.specs.Reading.{items_read, behind_items, typed_after}
use Rattle.hd_terms.specs.Typed.{with_type}
use Rattle.hd_terms.proofs.typed.behind_items.Given as goal

abbrev pub decreases-loop-rest : goal.decreases-loop-rest
decreases-loop-rest l = length l.rest

abbrev pub invariant-loop-rest : goal.invariant-loop-rest
invariant-loop-rest l = record {
  rest : behind_items l.kind (forms_view l.rest) ≡ behind_items l.kind (forms_view l.forms);
  len : length l.rest + length (items_read l.kind (forms_view l.forms)) ≡ length l.forms + length (items_read l.kind (forms_view l.rest));
}
