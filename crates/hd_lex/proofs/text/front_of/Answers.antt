use Rattle.std.proofs.Common.{sym, arith}
use Rattle.std.proofs.lemmas.List.Sums.{prefix_len-le-length}
use Rattle.std.proofs.lemmas.Result.{err_from_is_err_and}
use Rattle.hd_lex.specs.Byte.{is_word_byte, is_line_byte}
use Rattle.hd_lex.proofs.Reading.{begins-blank, begins-comment, comment-some, begins-parenthesis, begins-word, refused-word}
use Rattle.hd_lex.proofs.Fronts.{begins-token}
use Rattle.hd_lex.proofs.Telling.{refusal-is}
use Rattle.hd_lex.proofs.text.front_of.Goals as goal

pub returns-in-Blank-clause-front : goal.returns-in-Blank-clause-front
returns-in-Blank-clause-front c = begins-blank c.args.at c.args.text.now c.requires.some (sym c.in-Blank.ensures)

pub returns-in-Semicolon-clause-front : goal.returns-in-Semicolon-clause-front
returns-in-Semicolon-clause-front c =
    begins-comment c.args.at c.line_len.result c.args.text.now c.requires.some (sym c.in-Semicolon.ensures) c.line_len.ensures

pub returns-in-Semicolon-clause-progress : goal.returns-in-Semicolon-clause-progress
returns-in-Semicolon-clause-progress c =
    rw c.line_len.ensures (comment-some c.args.text.now c.requires.some (sym c.in-Semicolon.ensures), prefix_len-le-length is_line_byte c.args.text.now)

pub returns-in_ok-token-in-Parenthesis-clause-front : goal.returns-in_ok-token-in-Parenthesis-clause-front
returns-in_ok-token-in-Parenthesis-clause-front c =
    let begins = begins-parenthesis c.args.at c.args.text.now c.requires.some (sym c.in-Parenthesis.ensures) in
    begins-token c.args.at c.args.text.now _ _ _ _ begins c.in_ok-token-in-Parenthesis.ensures

pub returns-in_err-token-in-Parenthesis-clause-refusal : goal.returns-in_err-token-in-Parenthesis-clause-refusal
returns-in_err-token-in-Parenthesis-clause-refusal c =
    let p = err_from_is_err_and c.from_residual.result c.from_residual.ensures.1 in
    let begins = begins-parenthesis c.args.at c.args.text.now c.requires.some (sym c.in-Parenthesis.ensures) in
    rw (p.1, p.2) (refusal-is _ _ _ (refused-word c.args.at c.args.text.now _ _ _ _ begins c.in_err-token-in-Parenthesis.ensures))

pub token_of-requires-in-Word-clause-within : goal.token_of-requires-in-Word-clause-within
token_of-requires-in-Word-clause-within c = omega (arith, c.word_len-len.ensures, prefix_len-le-length is_word_byte c.args.text.now)

pub token_of-requires-in-Word-clause-place : goal.token_of-requires-in-Word-clause-place
token_of-requires-in-Word-clause-place c = omega (arith, c.word_len-len.ensures, prefix_len-le-length is_word_byte c.args.text.now)

pub returns-in_ok-token-in-Word-clause-front : goal.returns-in_ok-token-in-Word-clause-front
returns-in_ok-token-in-Word-clause-front c =
    let begins = begins-word c.args.at c.word_len-len.result c.args.text.now c.requires.some (sym c.in-Word.ensures) c.word_len-len.ensures in
    begins-token c.args.at c.args.text.now _ _ _ _ begins c.in_ok-token-in-Word.ensures

pub returns-in_err-token-in-Word-clause-refusal : goal.returns-in_err-token-in-Word-clause-refusal
returns-in_err-token-in-Word-clause-refusal c =
    let p = err_from_is_err_and c.from_residual-in_err-token-in-Word.result c.from_residual-in_err-token-in-Word.ensures.1 in
    let begins = begins-word c.args.at c.word_len-len.result c.args.text.now c.requires.some (sym c.in-Word.ensures) c.word_len-len.ensures in
    rw (p.1, p.2) (refusal-is _ _ _ (refused-word c.args.at c.args.text.now _ _ _ _ begins c.in_err-token-in-Word.ensures))
