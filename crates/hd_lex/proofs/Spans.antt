-- The spans of a text's tokens.
use Rattle.std.proofs.Common.{◌≡◌, ℕ, ◌+◌, ◌≤◌, List, [], ◌∷◌, ◌++◌, length, drop, Ok, ap, ◌∙◌, arith}
use Rattle.std.specs.List.{AllByRecursion}
use Rattle.hd_base.proofs.Lists.{drop_behind, slice_range_at}
use Rattle.hd_lex.specs.declared.token.Token.{Token}
use Rattle.hd_lex.specs.Byte.{is_word_byte, is_line_byte}
use Rattle.hd_lex.specs.Reading.{tokens_of}
use Rattle.hd_lex.specs.Text as texts
use Rattle.hd_lex.specs.Text.{Placed, AreWords, AreInOrder, IsAtItsBytes}
use Rattle.hd_lex.proofs.Telling.{first_of_tokens}
use Rattle.hd_lex.proofs.Runs.{run-lengths}
use Rattle.hd_lex.proofs.Table.{word-is}

-- ---- in order

pub in_order-from : (a b c d : ℕ) (tokens : List Token) → a ≤ b → c ≡ d → AreInOrder b tokens c → AreInOrder a tokens d
in_order-from a b c d [] low same order = omega arith
in_order-from a b c d (t ∷ ts) low same order =
    (omega arith, order.1, in_order-from t.to t.to c d ts (omega arith) same order.2)

-- the tokens of a text stand in order
pub tokens-in_order : {at : ℕ} {text : List ℕ} {words : List Placed} → AreWords at text words
    → (tokens : List Token) → tokens_of words ≡ Ok tokens
    → AreInOrder at tokens (at + length text)
unfolding tokens_of
tokens-in_order (texts.nothing {at = at}) tokens e =
    let none : [] ≡ tokens = cc in
    rw (← none) (omega arith)
tokens-in_order (texts.blank {at =
    at} is more) tokens e = in_order-from _ _ _ _ tokens (omega arith) (omega arith) (tokens-in_order more tokens e)
tokens-in_order (texts.comment {at = at} is run more) tokens e =
    in_order-from _ _ _ _ tokens (omega arith) (omega (arith, run-lengths is_line_byte run)) (tokens-in_order more tokens e)
tokens-in_order (texts.parenthesis {at = at} {byte = byte} {words = words} is more) tokens e =
    let first = first_of_tokens _ words tokens e in
    let later = tokens-in_order more first.rest first.are in
    rw (← first.all) (omega arith, omega arith, in_order-from _ _ _ _ first.rest (omega arith) (omega arith) later)
tokens-in_order (texts.word {at = at} {words = words} some run more) tokens e =
    let first = first_of_tokens _ words tokens e in
    let later = tokens-in_order more first.rest first.are in
    let size = run-lengths is_word_byte run in
    rw (← first.all) (omega arith, omega arith, in_order-from _ _ _ _ first.rest (omega arith) (omega arith) later)

-- ---- at their bytes

-- each token of a text is what the bytes of its span say
pub tokens-at_bytes : (whole : List ℕ) {at : ℕ} {text : List ℕ} {words : List Placed} → AreWords at text words
    → drop at whole ≡ text
    → (tokens : List Token) → tokens_of words ≡ Ok tokens → AllByRecursion (IsAtItsBytes whole) tokens
unfolding tokens_of
tokens-at_bytes whole texts.nothing here tokens e =
    let none : [] ≡ tokens = cc in
    rw (← none) tt
tokens-at_bytes whole (texts.blank {at = at} {byte = byte} {rest = rest} is more) here tokens e =
    tokens-at_bytes whole more (drop_behind whole at (byte ∷ []) rest here) tokens e
tokens-at_bytes whole (texts.comment {at = at} {byte = byte} {line = line} {rest = rest} is run more) here tokens e =
    let place : at + 1 + length line ≡ at + length (byte ∷ line) = omega arith in
    let parts : drop at whole ≡ (byte ∷ line) ++ rest = here ∙ ap (λ (xs : List ℕ). byte ∷ xs) run.parts in
    let later : drop (at + 1 + length line) whole ≡ rest = rw place (drop_behind whole at (byte ∷ line) rest parts) in
    tokens-at_bytes whole more later tokens e
tokens-at_bytes whole (texts.parenthesis {at = at} {byte = byte} {rest = rest} {words = words} is more) here tokens e =
    let first = first_of_tokens _ words tokens e in
    rw (← first.all) (
      rw (slice_range_at whole at (byte ∷ []) rest here) (word-is at first.is),
      tokens-at_bytes whole more (drop_behind whole at (byte ∷ []) rest here) first.rest first.are,
    )
tokens-at_bytes whole (texts.word {at = at} {bytes = bytes} {rest = rest} {words = words} some run more) here tokens e =
    let first = first_of_tokens _ words tokens e in
    rw (← first.all) (
      rw (slice_range_at whole at bytes rest (here ∙ run.parts)) (word-is at first.is),
      tokens-at_bytes whole more (drop_behind whole at bytes rest (here ∙ run.parts)) first.rest first.are,
    )
