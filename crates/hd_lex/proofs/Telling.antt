-- What the words of a text give together: their tokens, or the fault of the first bad one.
use Rattle.std.proofs.Common.{◌≡◌, ◌⊎◌, inl, inr, ℕ, ◌+◌, List, [], ◌∷◌, ◌++◌, length, Result, Ok, Err, refl, sym, ap, ◌∙◌}
use Rattle.std.specs.List.{AllByRecursion, AllZip}
use Rattle.hd_base.specs.Results.{◌>>=◌}
use Rattle.hd_lex.specs.declared.error.LexError.{LexError}
use Rattle.hd_lex.specs.declared.error.LexError.TheVariants as errors
use Rattle.hd_lex.specs.declared.token.Token.{Token}
use Rattle.hd_lex.specs.declared.token.Word.{Word}
use Rattle.hd_lex.specs.Reading.{word_of, token_of, tokens_of, Says, IsRefusal}
use Rattle.hd_lex.specs.Text.{Placed, IsTokenOf, AreTokens, IsGood, IsFirstBadWord, IsFault, IsFaultFrom}
use Rattle.hd_lex.specs.Word.{IsBad}
use Rattle.hd_lex.proofs.Cutting.{words_of, words_unique}
use Rattle.hd_lex.proofs.Table.{word-is, word-read, bad-is, bad-read}

-- a chain that succeeds succeeded at its first step
pub bind-ok : {A B : Type 0} (r : Result A LexError) (f : A → Result B LexError) (y : B) → (r >>= f) ≡ Ok y
    → (x : A) × (r ≡ Ok x) × (f x ≡ Ok y)
bind-ok (Ok x) f y e = (x, refl, e)
bind-ok (Err error) f y e = absurd cc

-- the tokens of words are that of the first and those of the rest
pub record IsFirst (w : Placed) (words : List Placed) (tokens : List Token) : Type 0 where
  pub word : Word
  pub rest : List Token
  pub is : word_of w.at w.bytes ≡ Ok word
  pub are : tokens_of words ≡ Ok rest
  pub all : record { from = w.at; to = w.at + length w.bytes; word = word } ∷ rest ≡ tokens

pub first_of_tokens : (w : Placed) (words : List Placed) (tokens : List Token)
    → tokens_of (w ∷ words) ≡ Ok tokens → IsFirst w words tokens
unfolding tokens_of
first_of_tokens w words tokens e =
    let one = bind-ok (token_of w) _ _ e in
    let more = bind-ok (tokens_of words) _ _ one.2 in
    let word = bind-ok (word_of w.at w.bytes) _ _ one.1 in
    record { word = word.0; rest = more.0; is = word.1; are = more.1; all = cc (word.2, more.2) }

-- a chain that fails failed at its first step or after it
bind-err : {A B : Type 0} (r : Result A LexError) (f : A → Result B LexError) (error : LexError) → (r >>= f) ≡ Err error
    → (r ≡ Err error) ⊎ ((x : A) × (r ≡ Ok x) × (f x ≡ Err error))
bind-err (Ok x) f error e = inr (x, refl, e)
bind-err (Err also) f error e = let same : also ≡ error = cc in inl (ap Err same)

-- ---- tokens

-- what is read of the words is their tokens
pub each_token : (words : List Placed) (tokens : List Token) → tokens_of words ≡ Ok tokens
    → AllZip IsTokenOf words tokens
unfolding tokens_of
each_token [] [] e = tt
each_token [] (t ∷ ts) e = absurd cc
each_token (w ∷ ws) tokens e =
    let first = first_of_tokens w ws tokens e in
    rw (← first.all) (
      record {
        from =
            refl;
        to = refl;
        word = word-is w.at first.is;
      },
      each_token ws first.rest first.are,
    )

-- the tokens of the words are read
pub each_read : (words : List Placed) (tokens : List Token) → AllZip IsTokenOf words tokens
    → tokens_of words ≡ Ok tokens
unfolding tokens_of
each_read [] [] each = refl
each_read [] (t ∷ ts) each = absurd each
each_read (w ∷ ws) [] each = absurd each
each_read (w ∷ ws) (t ∷ ts) each =
    let read : word_of w.at w.bytes ≡ Ok t.word = word-read w.at each.0.word in
    let more : tokens_of ws ≡ Ok ts = each_read ws ts each.1 in
    rw (read, more, sym each.0.to, sym each.0.from) refl

-- ---- the first fault

first_bad : (w : Placed) (ws : List Placed) (error : LexError) → IsBad w.at w.bytes error → IsFirstBadWord (w ∷ ws) error
first_bad w ws error bad = record { before = []; bad = w; behind = ws; parts = refl; good = tt; fault = bad }

later_bad : (w : Placed) (ws : List Placed) (error : LexError) → IsGood w → IsFirstBadWord ws error
    → IsFirstBadWord (w ∷ ws) error
later_bad w ws error good more = record {
  before = w ∷ more.before;
  bad = more.bad;
  behind = more.behind;
  parts = ap (λ (l : List Placed). w ∷ l) more.parts;
  good = (good, more.good);
  fault = more.fault;
}

-- a fault that is reported is that of the first bad word
pub first_fault : (words : List Placed) (error : LexError) → tokens_of words ≡ Err error → IsFirstBadWord words error
unfolding tokens_of
first_fault [] error e = absurd cc
first_fault (w ∷ ws) error e =
    elim (bind-err (token_of w) _ error e) [
      | inl bad ↦ elim (bind-err (word_of w.at w.bytes) _ error bad) [
        | inl told ↦ first_bad w ws error (bad-is w.at told)
        | inr read ↦ absurd cc
      ]
      | inr good ↦
          let word = bind-ok (word_of w.at w.bytes) _ good.0 good.1 in
          elim (bind-err (tokens_of ws) _ error good.2) [
            | inl more ↦ later_bad w ws error (word.0, word-is w.at word.1) (first_fault ws error more)
            | inr read ↦ absurd cc
          ]
    ]

-- the fault of the first bad word is reported
fault_behind : (before : List Placed) (bad : Placed) (behind : List Placed) (error : LexError)
    → AllByRecursion IsGood before → IsBad bad.at bad.bytes error
    → tokens_of (before ++ (bad ∷ behind)) ≡ Err error
unfolding tokens_of
fault_behind [] bad behind error good fault = rw (bad-read fault) refl
fault_behind (w ∷ ws) bad behind error good fault =
    let read : word_of w.at w.bytes ≡ Ok good.0.0 = word-read w.at good.0.1 in
    rw (read, fault_behind ws bad behind error good.1 fault) refl

pub fault-told : (words : List Placed) (error : LexError) → IsFirstBadWord words error → tokens_of words ≡ Err error
fault-told words error first =
    ap tokens_of first.parts ∙ fault_behind first.before first.bad first.behind error first.good first.fault

-- ---- a whole text

pub says-tokens : {text : List ℕ} {tokens : List Token} → Says 0 text (Ok tokens) → AreTokens text tokens
says-tokens {tokens =
    tokens} says = record { words = says.words; are_words = says.are_words; each = each_token says.words tokens says.tokens }

pub says-fault : {at : ℕ} {text : List ℕ} {error : LexError} → Says at text (Err error) → IsFaultFrom at text error
says-fault {error =
    error} says = record { words = says.words; are_words = says.are_words; first = first_fault says.words error says.tokens }

pub tokens-say : {text : List ℕ} {tokens : List Token} → AreTokens text tokens → Says 0 text (Ok tokens)
tokens-say {tokens =
    tokens} are = record { words = are.words; are_words = are.are_words; tokens = each_read are.words tokens are.each }

pub fault-says : {at : ℕ} {text : List ℕ} {error : LexError} → IsFaultFrom at text error → Says at text (Err error)
fault-says {error =
    error} is = record { words = is.words; are_words = is.are_words; tokens = fault-told is.words error is.first }

-- a text says one thing
pub said_unique : {at : ℕ} {text : List ℕ} {a b : Result (List Token) LexError} → Says at text a
    → Says at text b → a ≡ b
said_unique a b = sym a.tokens ∙ ap tokens_of (words_unique a.are_words b.are_words) ∙ b.tokens

-- a refusal is lack of memory or the fault of the text
pub refusal-is : (at : ℕ) (text : List ℕ) (error : LexError) → IsRefusal at text error
    → (error ≡ errors.NoMemory) ⊎ IsFaultFrom at text error
refusal-is at text errors.NoMemory refused = inl refl
refusal-is at text (errors.BadByte place) refused = inr (says-fault refused)
refusal-is at text (errors.BadNumber place) refused = inr (says-fault refused)
refusal-is at text (errors.NameTooLong place) refused = inr (says-fault refused)

pub is-refusal : (at : ℕ) (text : List ℕ) (error : LexError) → (error ≡ errors.NoMemory) ⊎ IsFaultFrom at text error
    → IsRefusal at text error
is-refusal at text errors.NoMemory told = tt
is-refusal at text (errors.BadByte place) (inl e) = absurd cc
is-refusal at text (errors.BadByte place) (inr is) = fault-says is
is-refusal at text (errors.BadNumber place) (inl e) = absurd cc
is-refusal at text (errors.BadNumber place) (inr is) = fault-says is
is-refusal at text (errors.NameTooLong place) (inl e) = absurd cc
is-refusal at text (errors.NameTooLong place) (inr is) = fault-says is

-- a text with tokens is refused for lack of memory alone
pub good-refused : (text : List ℕ) (error : LexError) (tokens : List Token) → AreTokens text tokens
    → IsRefusal 0 text error → error ≡ errors.NoMemory
good-refused text errors.NoMemory tokens are refused = refl
good-refused text (errors.BadByte place) tokens are refused =
    let same = said_unique (tokens-say are) refused in absurd cc
good-refused text (errors.BadNumber place) tokens are refused =
    let same = said_unique (tokens-say are) refused in absurd cc
good-refused text (errors.NameTooLong place) tokens are refused =
    let same = said_unique (tokens-say are) refused in absurd cc

-- and a text with a fault is not answered, and told no other fault
pub bad-answered : (text : List ℕ) (tokens : List Token) (fault : LexError) → IsFault text fault
    → Says 0 text (Ok tokens) → ⊥
bad-answered text tokens fault is answered = let same = said_unique (fault-says is) answered in cc

pub bad-refused : (text : List ℕ) (error fault : LexError) → IsFault text fault → IsRefusal 0 text error
    → (error ≡ errors.NoMemory) ⊎ (error ≡ fault)
bad-refused text errors.NoMemory fault is refused = inl refl
bad-refused text (errors.BadByte place) fault is refused = let same = said_unique (fault-says is) refused in inr cc
bad-refused text (errors.BadNumber place) fault is refused = let same = said_unique (fault-says is) refused in inr cc
bad-refused text (errors.NameTooLong place) fault is refused = let same = said_unique (fault-says is) refused in inr cc

-- ---- every text

good_or_bad_by : (text : List ℕ) (said : Result (List Token) LexError) → Says 0 text said
    → ((tokens : List Token) × AreTokens text tokens) ⊎ ((fault : LexError) × IsFault text fault)
good_or_bad_by text (Ok tokens) says = inl (tokens, says-tokens says)
good_or_bad_by text (Err fault) says = inr (fault, says-fault says)

-- every text has tokens or a fault
pub text-good_or_bad : (text : List ℕ)
    → ((tokens : List Token) × AreTokens text tokens) ⊎ ((fault : LexError) × IsFault text fault)
text-good_or_bad text =
    let words = words_of 0 text in
    good_or_bad_by text (tokens_of words.0) (record { words = words.0; are_words = words.1; tokens = refl })

-- it has one list of tokens
pub answer_unique : (text : List ℕ) (a b : List Token) → AreTokens text a → AreTokens text b → a ≡ b
answer_unique text a b is also = let same = said_unique (tokens-say is) (tokens-say also) in cc

-- it has one fault
pub text_fault_unique : (text : List ℕ) (a b : LexError) → IsFault text a → IsFault text b → a ≡ b
text_fault_unique text a b is also = let same = said_unique (fault-says is) (fault-says also) in cc
