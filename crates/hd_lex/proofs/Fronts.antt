-- What stands first in a text, and what is read of it.
use Rattle.std.proofs.Common.{◌≡◌, ℕ, ◌+◌, ◌-◌, ◌++◌, List, length, take, drop, length-drop, Option, Some, None, Ok, refl, sym, ap, ◌∙◌}
use Rattle.std.proofs.Math.Seq.{take-length}
use Rattle.hd_lex.specs.declared.token.Token.{Token}
use Rattle.hd_lex.specs.Reading.{word_of, token_of, listed, IsReadTo}
use Rattle.hd_lex.specs.Text.{Placed, AreWords, IsTokenOf, BeginsWithToken}
use Rattle.hd_lex.proofs.Reading.{Begins, read-word, more_read, with_front-nil}
use Rattle.hd_lex.proofs.Table.{word-is, word-read}
use Rattle.hd_lex.proofs.Telling.{bind-ok}

-- the token that is read of a word is its token
token-is : (w : Placed) (token : Token) → token_of w ≡ Ok token → IsTokenOf w token
token-is w token e =
    let word = bind-ok (word_of w.at w.bytes) _ token e in
    let made : Token = record { from = w.at; to = w.at + length w.bytes; word = word.0 } in
    let same : made ≡ token = cc word.2 in
    rw (← same) (record { from = refl; to = refl; word = word-is w.at word.1 })

-- and the token of a word is read
token-read : (w : Placed) (token : Token) → IsTokenOf w token → token_of w ≡ Ok token
token-read w token is = rw (word-read w.at is.word, sym is.to, sym is.from) refl

-- a word and its token stand first
pub begins-token : (at : ℕ) (text : List ℕ) (w : Placed) (to : ℕ) (rest : List ℕ) (token : Token)
    → Begins at text w to rest → token_of w ≡ Ok token → BeginsWithToken at text (Some token) to rest
begins-token at text w to rest token begins read = (w, token-is w token read, begins)

-- what stands first is read
pub front-read : (at : ℕ) (text : List ℕ) (token : Option Token) (to : ℕ) (rest : List ℕ)
    → BeginsWithToken at text token to rest → IsReadTo at text (listed token) to rest
front-read at text None to rest begins = λ words are.
    record { words = words; are_words = begins words are; tokens = sym (with_front-nil _) }
front-read at text (Some token) to rest begins =
    read-word at text begins.0 to rest token begins.2 (token-read begins.0 token begins.1)

-- the rest up to its end is all of it
rest_whole : (n : ℕ) (xs : List ℕ) → take (length xs - n) (drop n xs) ≡ drop n xs
rest_whole n xs = ap (λ (k : ℕ). take k (drop n xs)) (sym (length-drop n xs)) ∙ take-length (drop n xs)

-- what stands first in the rest is what was read of the text, and then the rest after it
pub front_more : (start : ℕ) (text : List ℕ) (front all : List Token) (at : ℕ) (rest : List ℕ) (token : Option Token) (len : ℕ)
    → all ≡ front ++ listed token → BeginsWithToken at rest token (at + len) (drop len rest) → IsReadTo start text front at rest
    → IsReadTo start text all (at + len) (take (length rest - len) (drop len rest))
front_more start text front all at rest token len same begins so_far =
    let read = more_read start text front at rest (listed token) (at + len) (drop len rest) so_far (front-read at rest token _ _ begins) in
    rw (same, rest_whole len rest) read
