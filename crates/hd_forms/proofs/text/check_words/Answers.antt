use Rattle.std.proofs.Common.{◌≡◌, ◌+◌, ◌++◌, [], length, refl, sym, ◌∙◌, arith}
use Rattle.std.proofs.lemmas.Result.{err_from_is_err_and}
use Rattle.hd_lex.specs.Reading.{listed}
use Rattle.hd_lex.proofs.Fronts.{front_more}
use Rattle.hd_lex.proofs.Reading.{none_read, all_read, refused_rest}
use Rattle.hd_lex.proofs.Telling.{is-refusal}
use Rattle.hd_forms.proofs.text.check_words.Goals as goal

pub returns-in_err-token-clause-refusal : goal.returns-in_err-token-clause-refusal
returns-in_err-token-clause-refusal c =
    let p = err_from_is_err_and c.from_residual.result c.from_residual.ensures.1 in
    let l = c.loop-rest in
    rw (p.1, p.2) (refused_rest c.args.at c.args.text.now l.invariant.read.0 l.place l.rest.now _ l.invariant.read.1 (is-refusal _ _ _ c.in_err-token.ensures.refusal))

pub loop-rest-preserved : goal.loop-rest-preserved
loop-rest-preserved c =
    let l = c.loop-rest in
    let front = c.in_ok-token.field-0 in
    record {
      place = grind arith;
      read = (
        l.invariant.read.0 ++ listed front.token,
        front_more c.args.at c.args.text.now l.invariant.read.0 _ l.place l.rest.now front.token front.len refl c.in_ok-token.ensures.front l.invariant.read.1,
      );
    }

pub returns-clause-good : goal.returns-clause-good
returns-clause-good c =
    let l = c.loop-rest in
    record {
      tokens = l.invariant.read.0;
      says = all_read c.args.at c.args.text.now l.invariant.read.0 l.place l.rest.now l.invariant.read.1 (grind arith);
    }
