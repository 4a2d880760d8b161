-- Every text has exactly one list of words.
use Rattle.std.proofs.Common.{◌≡◌, ℕ, zero, suc, ◌+◌, ◌<◌, ◌≤◌, List, [], ◌∷◌, length, take, drop, Bool, true, false, refl, sym, ap, ap₂, ◌∙◌, arith, length-drop}
use Rattle.std.specs.List.{prefix_len}
use Rattle.std.proofs.lemmas.List.Folds.{length-prefix_len}
use Rattle.hd_lex.specs.declared.byte.Class.{Class}
use Rattle.hd_lex.specs.declared.byte.Class.TheVariants.{Blank, Semicolon, Parenthesis, Word}
use Rattle.hd_lex.specs.Byte.{class_of, is_word, is_word_byte, is_line_byte}
use Rattle.hd_lex.specs.Text.{Placed, IsRun, AreWords}
use Rattle.hd_lex.specs.Text as texts
use Rattle.hd_lex.proofs.Runs.{run_of, prefix_len-run, take-run, drop-run, run-lengths}

-- a class that is of words is the one of words
pub is_word-Word : (k : Class) → is_word k ≡ true → k ≡ Word
is_word-Word Blank e = absurd cc
is_word-Word Semicolon e = absurd cc
is_word-Word Parenthesis e = absurd cc
is_word-Word Word e = refl

-- the words, by the class of the first byte, where more cuts what follows
abbrev cut_by : Class → ℕ → ℕ → List ℕ → (ℕ → List ℕ → List Placed) → List Placed
cut_by Blank at x xs more = more (at + 1) xs
cut_by Semicolon at x xs more =
    more (at + 1 + length (take (prefix_len is_line_byte xs) xs)) (drop (prefix_len is_line_byte xs) xs)
cut_by Parenthesis at x xs more = record { at = at; bytes = x ∷ [] } ∷ more (at + 1) xs
cut_by Word at x xs more =
    record { at = at; bytes = take (prefix_len is_word_byte (x ∷ xs)) (x ∷ xs) }
    ∷ more (at + length (take (prefix_len is_word_byte (x ∷ xs)) (x ∷ xs))) (drop (prefix_len is_word_byte (x ∷ xs)) (x ∷ xs))

-- the words of a text of at most n bytes
cut : ℕ → ℕ → List ℕ → List Placed
cut zero at text = []
cut (suc n) at [] = []
cut (suc n) at (x ∷ xs) = cut_by (class_of x) at x xs (cut n)

-- a word has a byte
pub word-some : (x : ℕ) (xs : List ℕ) → class_of x ≡ Word → 0 < prefix_len is_word_byte (x ∷ xs)
word-some x xs is = let word : is_word_byte x ≡ true = ap is_word is in rw word (omega arith)

-- what was cut by the class of its first byte is the words, where the rest is
are_words_by : (k : Class) (at x : ℕ) (xs : List ℕ) (more : ℕ → List ℕ → List Placed) → class_of x ≡ k
    → ((to : ℕ) (rest : List ℕ) → length rest ≤ length xs → AreWords to rest (more to rest))
    → AreWords at (x ∷ xs) (cut_by k at x xs more)
are_words_by Blank at x xs more is rests = texts.blank is (rests (at + 1) xs (omega arith))
are_words_by Semicolon at x xs more is rests =
    texts.comment is (run_of is_line_byte xs) (rests _ _ (omega (arith, length-drop (prefix_len is_line_byte xs) xs)))
are_words_by Parenthesis at x xs more is rests = texts.parenthesis is (rests (at + 1) xs (omega arith))
are_words_by Word at x xs more is rests =
    let some : 0 < prefix_len is_word_byte (x ∷ xs) = word-some x xs is in
    texts.word (omega (arith, length-prefix_len is_word_byte (x ∷ xs))) (run_of is_word_byte (x ∷ xs))
    (rests _ _ (omega (arith, length-drop (prefix_len is_word_byte (x ∷ xs)) (x ∷ xs))))

-- what was cut is the words of the text
cut-are_words : (n at : ℕ) (text : List ℕ) → length text ≤ n → AreWords at text (cut n at text)
unfolding cut
cut-are_words zero at [] few = texts.nothing
cut-are_words zero at (x ∷ xs) few = absurd (omega arith)
cut-are_words (suc n) at [] few = texts.nothing
cut-are_words (suc n) at (x ∷ xs) few =
    are_words_by (class_of x) at x xs (cut n) refl (λ to rest shorter. cut-are_words n to rest (omega arith))

-- every text has words
pub words_of : (at : ℕ) (text : List ℕ) → (words : List Placed) × AreWords at text words
words_of at text = (cut (length text) at text, cut-are_words (length text) at text (omega arith))

-- the first byte of a run is one of the run
begins_word : (x : ℕ) (xs : List ℕ) (b : Bool) → is_word_byte x ≡ b → 0 < prefix_len is_word_byte (x ∷ xs)
    → is_word_byte x ≡ true
begins_word x xs true e some = e
begins_word x xs false e some = absurd (omega (arith, rw e at some))

cut-word : (n at : ℕ) (text : List ℕ) {bytes rest : List ℕ} {words : List Placed} → 0 < length bytes
    → IsRun is_word_byte text bytes rest
    → cut n (at + length bytes) rest ≡ words → cut (suc n) at text ≡ record { at = at; bytes = bytes } ∷ words
unfolding cut
cut-word n at [] some run same = absurd (omega (arith, prefix_len-run is_word_byte run))
cut-word n at (x ∷ xs) {bytes = bytes} {rest = rest} {words = words} some run same =
    let len : prefix_len is_word_byte (x ∷ xs) ≡ length bytes = prefix_len-run is_word_byte run in
    let is : class_of x ≡ Word = is_word-Word (class_of x) (begins_word x xs (is_word_byte x) refl (omega arith)) in
    ap (λ (k : Class). cut_by k at x xs (cut n)) is
    ∙ ap₂ (λ (run left : List ℕ). record {
      at =
          at;
      bytes = run;
    } ∷ cut n (at + length run) left) (take-run is_word_byte run) (drop-run is_word_byte run)
    ∙ ap (λ (ws : List Placed). record { at = at; bytes = bytes } ∷ ws) same

-- the words of a text are what was cut
cut-words : (n : ℕ) {at : ℕ} {text : List ℕ} {words : List Placed} → AreWords at text words → length text ≤ n
    → cut n at text ≡ words
unfolding cut
cut-words zero texts.nothing few = refl
cut-words (suc n) texts.nothing few = refl
cut-words zero (texts.blank is more) few = absurd (omega arith)
cut-words (suc n) (texts.blank is more) few = rw is (cut-words n more (omega arith))
cut-words zero (texts.comment is run more) few = absurd (omega arith)
cut-words (suc n) (texts.comment {at = at} is run more) few =
    rw is (ap₂ (λ (line left : List ℕ). cut n (at + 1 + length line) left) (take-run is_line_byte run) (drop-run is_line_byte run)
    ∙ cut-words n more (omega (arith, run-lengths is_line_byte run)))
cut-words zero (texts.parenthesis is more) few = absurd (omega arith)
cut-words (suc n) (texts.parenthesis {at = at} {byte = byte} is more) few =
    rw is (ap (λ (ws : List Placed). record { at = at; bytes = byte ∷ [] } ∷ ws) (cut-words n more (omega arith)))
cut-words zero (texts.word some run more) few = absurd (omega (arith, run-lengths is_word_byte run))
cut-words (suc n) (texts.word {at = at} {text = text} some run more) few =
    cut-word n at text some run (cut-words n more (omega (arith, run-lengths is_word_byte run)))

-- a text has no other words
pub words_unique : {at : ℕ} {text : List ℕ} {a b : List Placed} → AreWords at text a → AreWords at text b → a ≡ b
words_unique {text =
    text} are also = sym (cut-words (length text) are (omega arith)) ∙ cut-words (length text) also (omega arith)
