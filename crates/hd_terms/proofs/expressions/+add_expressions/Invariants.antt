use Rattle.std.proofs.Common.{◌≡◌, ◌≤◌, length}
use Rattle.hd_forms.specs.Forms.{size}
use Rattle.hd_forms.specs.View.{forms_view}
use Rattle.hd_terms.specs.Reading.{exprs_after}
use Rattle.hd_terms.proofs.expressions.+add_expressions.Given as goal

abbrev pub decreases-add_expressions : goal.decreases-add_expressions
decreases-add_expressions l = size (forms_view l.forms.now)

abbrev pub invariant-loop-first : goal.invariant-loop-first
invariant-loop-first l = record {
  same : exprs_after l.most (forms_view l.rest) l.found.items
      ≡ exprs_after l.most (forms_view l.initial.forms) l.initial.found.items;
  part : size (forms_view l.rest) ≤ size (forms_view l.initial.forms);
}

abbrev pub decreases-loop-first : goal.decreases-loop-first
decreases-loop-first l = length l.rest
