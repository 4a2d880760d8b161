use Rattle.std.proofs.Common.{◌++◌, ◌∷◌, [], Some, refl, arith}
use Rattle.std.proofs.lemmas.Result.{err_from_is_err_and}
use Rattle.hd_lex.proofs.Fronts.{front_more}
use Rattle.hd_lex.proofs.Telling.{is-refusal}
use Rattle.hd_forms.proofs.Nested.{nested-token, words_told, parentheses_told}
use Rattle.hd_forms.proofs.text.nest.Goals as goal

pub returns-in_err-token-clause-refusal : goal.returns-in_err-token-clause-refusal
returns-in_err-token-clause-refusal c =
    let p = err_from_is_err_and c.from_residual.result c.from_residual.ensures.1 in
    let so_far = c.loop-rest.invariant.nested in
    rw (p.1, p.2) (words_told c.args.text.now so_far.tokens _ _ _ so_far.read (is-refusal _ _ _ c.in_err-token.ensures.refusal))

pub returns-in_err-check_words-clause-refusal : goal.returns-in_err-check_words-clause-refusal
returns-in_err-check_words-clause-refusal c =
    let p = err_from_is_err_and c.from_residual-in_err-check_words.result c.from_residual-in_err-check_words.ensures.1 in
    let l = c.loop-rest in
    let so_far = l.invariant.nested in
    let begins = rw c.in-Some.is at c.in_ok-token.ensures.front in
    let read = front_more 0 c.args.text.now so_far.tokens (so_far.tokens ++ c.in-Some.token ∷ []) l.at l.rest.now (Some c.in-Some.token) c.in_ok-token.field-0.len refl begins so_far.read in
    rw (p.1, p.2) (words_told c.args.text.now _ _ _ _ read c.in_err-check_words.ensures.refusal)

pub returns-in-Err-clause-refusal : goal.returns-in-Err-clause-refusal
returns-in-Err-clause-refusal c =
    let l = c.loop-rest in
    let begins = rw c.in-Some.is at c.in_ok-token.ensures.front in
    parentheses_told c.args.text.now l.around l.forms.items l.at l.rest.now c.in-Some.token c.in_ok-token.field-0.len c.in-Err.error
    l.invariant.nested begins c.in_ok-check_words.ensures.good c.in-Err.ensures.fault

pub loop-rest-preserved-in_default-take : goal.loop-rest-preserved-in_default-take
loop-rest-preserved-in_default-take c =
    let l = c.loop-rest in
    let begins = rw c.in-Some.is at c.in_ok-token.ensures.front in
    record {
      place = grind arith;
      nested = nested-token c.args.text.now l.around _ l.forms.items _ l.at l.rest.now c.in-Some.token c.in_ok-token.field-0.len
          l.invariant.nested begins c.in_default-take.ensures.written c.in_default-take.ensures.goes_on;
    }
