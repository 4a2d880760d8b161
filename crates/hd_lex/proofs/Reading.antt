-- What a text says, read from its front.
use Rattle.std.proofs.Common.{◌≡◌, ℕ, ◌+◌, ◌<◌, List, [], ◌∷◌, ◌++◌, length, get_or, take, drop, true, Result, Ok, Err, None, refl, sym, ap, ◌∙◌, append_assoc, arith}
use Rattle.std.specs.List.{prefix_len}
use Rattle.std.proofs.lemmas.List.{append-nil, drop-drop}
use Rattle.std.proofs.lemmas.List.Folds.{length-prefix_len}
use Rattle.std.proofs.lemmas.Bool.Decides.{nat_tests}
use Rattle.hd_lex.specs.declared.byte.Class.TheVariants as classes
use Rattle.hd_lex.specs.declared.error.LexError.{LexError}
use Rattle.hd_lex.specs.declared.error.LexError.TheVariants as errors
use Rattle.hd_lex.specs.declared.token.Token.{Token}
use Rattle.hd_lex.specs.Byte.{class_of, is_word_byte, is_line_byte}
use Rattle.hd_lex.specs.Reading.{IsFailure, token_of, tokens_of, Says, IsRefusal, with_front, IsReadTo}
use Rattle.hd_lex.specs.Text as texts
use Rattle.hd_lex.specs.Text.{Placed, AreWords, BeginsWithToken}
use Rattle.hd_lex.proofs.Runs.{run_of}
use Rattle.hd_lex.proofs.Cutting.{word-some, words_of}

-- the words of the same rest at the same place
moved : {to to' : ℕ} {rest rest' : List ℕ} {words : List Placed} → to ≡ to' → rest ≡ rest'
    → AreWords to rest words → AreWords to' rest' words
moved e f are = rw (← e, ← f) are

pub with_front-nil : (said : Result (List Token) LexError) → with_front [] said ≡ said
with_front-nil (Ok tokens) = refl
with_front-nil (Err error) = refl

-- ---- what has no word

pub begins-blank : (at : ℕ) (text : List ℕ) → 0 < length text → class_of (get_or text 0 0) ≡ classes.Blank
    → BeginsWithToken at text None (at + 1) (drop 1 text)
begins-blank at [] some is words are = absurd (omega arith)
begins-blank at (x ∷ xs) some is words are = texts.blank is are

-- the semicolon is part of its line
semicolon-line : (x : ℕ) → class_of x ≡ classes.Semicolon → is_line_byte x ≡ true
semicolon-line x is = grind (arith, nat_tests)

comment-len : (x : ℕ) (xs : List ℕ) → class_of x ≡ classes.Semicolon
    → prefix_len is_line_byte (x ∷ xs) ≡ 1 + prefix_len is_line_byte xs
comment-len x xs is = rw semicolon-line refl

pub begins-comment : (at len : ℕ) (text : List ℕ) → 0 < length text → class_of (get_or text 0 0) ≡ classes.Semicolon
    → len ≡ prefix_len is_line_byte text → BeginsWithToken at text None (at + len) (drop len text)
begins-comment at len [] some is has words are = absurd (omega arith)
begins-comment at len (x ∷ xs) some is has words are =
    let line = prefix_len is_line_byte xs in
    let n : len ≡ 1 + line = has ∙ comment-len x xs is in
    let place : at + len ≡ at + 1 + length (take line xs) = omega (arith, length-prefix_len is_line_byte xs) in
    texts.comment is (run_of is_line_byte xs) (moved place (ap (λ (k : ℕ). drop k (x ∷ xs)) n ∙ sym (drop-drop line 1 (x ∷ xs))) are)

-- a comment has a byte
pub comment-some : (text : List ℕ) → 0 < length text → class_of (get_or text 0 0) ≡ classes.Semicolon
    → 0 < prefix_len is_line_byte text
comment-some [] some is = absurd (omega arith)
comment-some (x ∷ xs) some is = omega (arith, comment-len x xs is)

-- ---- what is a word

-- the text begins with this word, and the rest follows
abbrev pub Begins : ℕ → List ℕ → Placed → ℕ → List ℕ → Type 0
Begins at text w to rest = (words : List Placed) → AreWords to rest words → AreWords at text (w ∷ words)

pub begins-parenthesis : (at : ℕ) (text : List ℕ) → 0 < length text → class_of (get_or text 0 0) ≡ classes.Parenthesis
    → Begins at text (record { at = at; bytes = take 1 text }) (at + 1) (drop 1 text)
begins-parenthesis at [] some is words are = absurd (omega arith)
begins-parenthesis at (x ∷ xs) some is words are = texts.parenthesis is are

pub begins-word : (at len : ℕ) (text : List ℕ) → 0 < length text → class_of (get_or text 0 0) ≡ classes.Word
    → len ≡ prefix_len is_word_byte text
    → Begins at text (record { at = at; bytes = take len text }) (at + len) (drop len text)
begins-word at len [] some is has words are = absurd (omega arith)
begins-word at len (x ∷ xs) some is has words are =
    let run = take (prefix_len is_word_byte (x ∷ xs)) (x ∷ xs) in
    let size = length-prefix_len is_word_byte (x ∷ xs) in
    let more = word-some x xs is in
    let place : at + len ≡ at + length run = omega arith in
    let later = moved place (ap (λ (k : ℕ). drop k (x ∷ xs)) has) are in
    rw has (texts.word {bytes = run} (omega arith) (run_of is_word_byte (x ∷ xs)) later)

-- a word has a byte
pub word-passes : (text : List ℕ) → 0 < length text → class_of (get_or text 0 0) ≡ classes.Word
    → 0 < prefix_len is_word_byte text
word-passes [] some is = absurd (omega arith)
word-passes (x ∷ xs) some is = word-some x xs is

-- a good word in front
tokens_of-good : (w : Placed) (words : List Placed) (token : Token) → token_of w ≡ Ok token
    → tokens_of (w ∷ words) ≡ with_front (token ∷ []) (tokens_of words)
unfolding tokens_of
tokens_of-good w words token good = rw good refl

-- a bad word in front
pub tokens_of-bad : (w : Placed) (words : List Placed) (error : LexError) → token_of w ≡ Err error
    → tokens_of (w ∷ words) ≡ Err error
unfolding tokens_of
tokens_of-bad w words error bad = rw bad refl

pub read-word : (at : ℕ) (text : List ℕ) (w : Placed) (to : ℕ) (rest : List ℕ) (token : Token)
    → Begins at text w to rest → token_of w ≡ Ok token → IsReadTo at text (token ∷ []) to rest
read-word at text w to rest token begins good words are =
    record { words = w ∷ words; are_words = begins words are; tokens = tokens_of-good w words token good }

says_bad : {at : ℕ} {text : List ℕ} {w : Placed} {to : ℕ} {rest : List ℕ} (error : LexError)
    → Begins at text w to rest → token_of w ≡ Err error → Says at text (Err error)
says_bad {w = w} {to = to} {rest = rest} error begins bad =
    let more = words_of to rest in
    record { words = w ∷ more.0; are_words = begins more.0 more.1; tokens = tokens_of-bad w more.0 error bad }

pub refused-word : (at : ℕ) (text : List ℕ) (w : Placed) (to : ℕ) (rest : List ℕ) (error : LexError)
    → Begins at text w to rest → IsFailure error (token_of w) → IsRefusal at text error
refused-word at text w to rest errors.NoMemory begins bad = tt
refused-word at text w to rest (errors.BadByte place) begins bad = says_bad _ begins bad
refused-word at text w to rest (errors.BadNumber place) begins bad = says_bad _ begins bad
refused-word at text w to rest (errors.NameTooLong place) begins bad = says_bad _ begins bad

-- ---- all of a text

with_front-append : (a b : List Token) (said : Result (List Token) LexError)
    → with_front a (with_front b said) ≡ with_front (a ++ b) said
with_front-append a b (Ok tokens) = ap Ok (sym (append_assoc a b tokens))
with_front-append a b (Err error) = refl

-- nothing is read yet
pub none_read : (at : ℕ) (text : List ℕ) → IsReadTo at text [] at text
none_read at text words are = record { words = words; are_words = are; tokens = sym (with_front-nil _) }

-- what is read of the rest is read of the text
pub more_read : (at : ℕ) (text : List ℕ) (front : List Token) (to : ℕ) (rest : List ℕ) (more : List Token) (end : ℕ) (last : List ℕ)
    → IsReadTo at text front to rest → IsReadTo to rest more end last → IsReadTo at text (front ++ more) end last
more_read at text front to rest more end last so_far next words are =
    let later = next words are in
    let said = so_far later.words later.are_words in
    record {
      words =
          said.words;
      are_words = said.are_words;
      tokens = said.tokens ∙ ap (with_front front) later.tokens ∙ with_front-append front more (tokens_of words);
    }

-- all is read
pub all_read : (at : ℕ) (text : List ℕ) (front : List Token) (to : ℕ) (rest : List ℕ)
    → IsReadTo at text front to rest → length rest ≡ 0 → Says at text (Ok front)
unfolding tokens_of
all_read at text front to [] so_far none =
    let said = so_far [] texts.nothing in
    record { words = said.words; are_words = said.are_words; tokens = said.tokens ∙ ap Ok (append-nil front) }
all_read at text front to (x ∷ xs) so_far none = absurd (omega arith)

says_error : (at : ℕ) (text : List ℕ) (front : List Token) (to : ℕ) (rest : List ℕ) (error : LexError)
    → IsReadTo at text front to rest → Says to rest (Err error) → Says at text (Err error)
says_error at text front to rest error so_far bad =
    let said = so_far bad.words bad.are_words in
    record { words = said.words; are_words = said.are_words; tokens = said.tokens ∙ ap (with_front front) bad.tokens }

-- the fault of the rest is that of the text
pub refused_rest : (at : ℕ) (text : List ℕ) (front : List Token) (to : ℕ) (rest : List ℕ) (error : LexError)
    → IsReadTo at text front to rest → IsRefusal to rest error → IsRefusal at text error
refused_rest at text front to rest errors.NoMemory so_far bad = tt
refused_rest at text front to rest (errors.BadByte place) so_far bad = says_error at text front to rest _ so_far bad
refused_rest at text front to rest (errors.BadNumber place) so_far bad = says_error at text front to rest _ so_far bad
refused_rest at text front to rest (errors.NameTooLong place) so_far bad = says_error at text front to rest _ so_far bad
