use Rattle.std.proofs.Common.{refl, arith}
use Rattle.std.proofs.lemmas.List.Elements.{All-from_recursion}
use Rattle.std.proofs.lemmas.Result.{err_from_is_err_and}
use Rattle.hd_lex.specs.Text.{IsAtItsBytes}
use Rattle.hd_lex.proofs.Fronts.{front_more}
use Rattle.hd_lex.proofs.Reading.{all_read, refused_rest}
use Rattle.hd_lex.proofs.Spans.{in_order-from, tokens-in_order, tokens-at_bytes}
use Rattle.hd_lex.proofs.Telling.{says-tokens, tokens-say, said_unique, refusal-is, is-refusal, good-refused, bad-answered, bad-refused}
use Rattle.hd_lex.proofs.text.tokens.Goals as goal

pub returns-in_err-token-clause-refusal : goal.returns-in_err-token-clause-refusal
returns-in_err-token-clause-refusal c =
    let p = err_from_is_err_and c.from_residual.result c.from_residual.ensures.1 in
    rw (p.1, p.2) (refusal-is 0 c.args.text.now _ (refused_rest 0 c.args.text.now _ _ _ _ c.loop-rest.invariant.read (is-refusal _ _ _ c.in_err-token.ensures.refusal)))

pub returns-in_err-token-clause-good_text : goal.returns-in_err-token-clause-good_text
returns-in_err-token-clause-good_text c tokens are =
    let p = err_from_is_err_and c.from_residual.result c.from_residual.ensures.1 in
    rw (p.1, p.2) (good-refused c.args.text.now _ tokens are (refused_rest 0 c.args.text.now _ _ _ _ c.loop-rest.invariant.read (is-refusal _ _ _ c.in_err-token.ensures.refusal)))

pub returns-in_err-token-clause-bad_text : goal.returns-in_err-token-clause-bad_text
returns-in_err-token-clause-bad_text c fault is =
    let p = err_from_is_err_and c.from_residual.result c.from_residual.ensures.1 in
    rw (p.1, p.2) (bad-refused c.args.text.now _ fault is (refused_rest 0 c.args.text.now _ _ _ _ c.loop-rest.invariant.read (is-refusal _ _ _ c.in_err-token.ensures.refusal)))

pub loop-rest-preserved : goal.loop-rest-preserved
loop-rest-preserved c = record {
  place = grind arith;
  read = front_more 0 c.args.text.now c.loop-rest.tokens.items _ c.loop-rest.at c.loop-rest.rest.now c.in_ok-token.field-0.token c.in_ok-token.field-0.len
      c.in_ok-push_front.ensures.pushed c.in_ok-token.ensures.front c.loop-rest.invariant.read;
}

pub returns-clause-answer : goal.returns-clause-answer
returns-clause-answer c =
    says-tokens (all_read 0 c.args.text.now c.loop-rest.tokens.items c.loop-rest.at c.loop-rest.rest.now c.loop-rest.invariant.read (grind arith))

pub returns-clause-good_text : goal.returns-clause-good_text
returns-clause-good_text c tokens are =
    let same = said_unique (tokens-say are) (all_read 0 c.args.text.now c.loop-rest.tokens.items c.loop-rest.at c.loop-rest.rest.now c.loop-rest.invariant.read (grind arith)) in
    cc

pub returns-clause-bad_text : goal.returns-clause-bad_text
returns-clause-bad_text c fault is =
    bad-answered c.args.text.now c.loop-rest.tokens.items fault is (all_read 0 c.args.text.now c.loop-rest.tokens.items c.loop-rest.at c.loop-rest.rest.now c.loop-rest.invariant.read (grind arith))

pub returns-clause-spans_in_order : goal.returns-clause-spans_in_order
returns-clause-spans_in_order c =
    let answer = all_read 0 c.args.text.now c.loop-rest.tokens.items c.loop-rest.at c.loop-rest.rest.now c.loop-rest.invariant.read (grind arith) in
    in_order-from 0 0 _ _ c.loop-rest.tokens.items (omega arith) (omega arith) (tokens-in_order answer.are_words c.loop-rest.tokens.items answer.tokens)

pub returns-clause-spans_at_words : goal.returns-clause-spans_at_words
returns-clause-spans_at_words c =
    let answer = all_read 0 c.args.text.now c.loop-rest.tokens.items c.loop-rest.at c.loop-rest.rest.now c.loop-rest.invariant.read (grind arith) in
    All-from_recursion (IsAtItsBytes c.args.text.now) c.loop-rest.tokens.items
    (tokens-at_bytes c.args.text.now answer.are_words refl c.loop-rest.tokens.items answer.tokens)
