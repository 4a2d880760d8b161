use Rattle.std.proofs.Common.{Err}
use Rattle.std.proofs.lemmas.Result.{err_from_is_err_and}
use Rattle.hd_pddl.specs.Domain.{IsDomain}
use Rattle.hd_forms.specs.View.{forms_view}
use Rattle.hd_pddl.proofs.Domains.{IsReadBy-domain_of}
use Rattle.hd_forms.proofs.Whole.{found_of, refusal_of, explained, only_of, bad_word_of, bad_parentheses_of}
use Rattle.hd_pddl.proofs.domain.read_domain.Goals as goal

pub returns-in_err-forms-clause-only : goal.returns-in_err-forms-clause-only
returns-in_err-forms-clause-only c =
    let p = err_from_is_err_and c.from_residual.result c.from_residual.ensures.1 in
    rw (p.1, p.2) (only_of IsReadBy-domain_of c.args.text.now (Err _) tt (explained IsDomain c.args.text.now _ c.in_err-forms.ensures.refusal))

pub returns-in_err-forms-clause-bad_word : goal.returns-in_err-forms-clause-bad_word
returns-in_err-forms-clause-bad_word c =
    let p = err_from_is_err_and c.from_residual.result c.from_residual.ensures.1 in
    rw (p.1, p.2) (bad_word_of IsDomain c.args.text.now (Err _) tt (explained IsDomain c.args.text.now _ c.in_err-forms.ensures.refusal))

pub returns-in_err-forms-clause-bad_parentheses : goal.returns-in_err-forms-clause-bad_parentheses
returns-in_err-forms-clause-bad_parentheses c =
    let p = err_from_is_err_and c.from_residual.result c.from_residual.ensures.1 in
    rw (p.1, p.2) (bad_parentheses_of IsDomain c.args.text.now (Err _) tt (explained IsDomain c.args.text.now _ c.in_err-forms.ensures.refusal))

pub returns-clause-found : goal.returns-clause-found
returns-clause-found c =
    found_of IsReadBy-domain_of c.args.text.now (forms_view c.in_ok-forms.forms.items) c.domain_of.result c.in_ok-forms.ensures.forms
    (rw c.deref.ensures.value at c.domain_of.ensures)

pub returns-clause-refusal : goal.returns-clause-refusal
returns-clause-refusal c =
    refusal_of IsReadBy-domain_of c.args.text.now (forms_view c.in_ok-forms.forms.items) c.domain_of.result c.in_ok-forms.ensures.forms
    (rw c.deref.ensures.value at c.domain_of.ensures)

pub returns-clause-only : goal.returns-clause-only
returns-clause-only c =
    only_of IsReadBy-domain_of c.args.text.now c.domain_of.result (returns-clause-found c) (returns-clause-refusal c)

pub returns-clause-bad_word : goal.returns-clause-bad_word
returns-clause-bad_word c =
    bad_word_of IsDomain c.args.text.now c.domain_of.result (returns-clause-found c) (returns-clause-refusal c)

pub returns-clause-bad_parentheses : goal.returns-clause-bad_parentheses
returns-clause-bad_parentheses c =
    bad_parentheses_of IsDomain c.args.text.now c.domain_of.result (returns-clause-found c) (returns-clause-refusal c)
