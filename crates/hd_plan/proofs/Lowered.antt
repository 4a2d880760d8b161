-- The names of steps that were read are names of texts in lower case.
use Rattle.std.proofs.Common.{◌≡◌, ℕ, List, [], ◌∷◌, map, true, refl, sym, ap₂, subst, arith}
use Rattle.std.specs.Char.{is_ascii_alphabetic, to_ascii_lowercase}
use Rattle.std.specs.List.{list_all, All, AllByRecursion, AllZip}
use Rattle.std.proofs.lemmas.List.Elements.{All-from_recursion}
use Rattle.std.proofs.lemmas.Bool.{and_parts, and_from}
use Rattle.std.proofs.lemmas.Bool.Decides.{nat_tests}
use Rattle.std.proofs.lemmas.List.{length-map}
use Rattle.std.proofs.lemmas.Str.Ascii.{lowercase-lowercase}
use Rattle.hd_lex.specs.declared.token.Token.{Token}
use Rattle.hd_lex.specs.declared.token.Word.{Word}
use Rattle.hd_lex.specs.declared.token.Word.TheVariants as words
use Rattle.hd_lex.specs.Byte.{is_name_byte}
use Rattle.hd_lex.specs.Text.{Placed, IsTokenOf}
use Rattle.hd_lex.specs.Word as table
use Rattle.hd_lex.specs.Word.{is_name, IsSign, IsName, IsWord}
use Rattle.hd_plan.specs.declared.step.Step.{Step}
use Rattle.hd_plan.specs.Reading.{token_words}
use Rattle.hd_plan.specs.Text as texts
use Rattle.hd_plan.specs.Text.{step_words, IsStepLine, IsLowerName, IsStep, ReadsAs}
use Rattle.hd_plan.proofs.Shapes.{closed}

-- ---- folding keeps a name a name

letter-folded : (x : ℕ) → is_ascii_alphabetic x ≡ true → is_ascii_alphabetic (to_ascii_lowercase x) ≡ true
letter-folded x e = grind (arith, nat_tests)

byte-folded : (x : ℕ) → is_name_byte x ≡ true → is_name_byte (to_ascii_lowercase x) ≡ true
byte-folded x e = grind (arith, nat_tests)

bytes-folded : (xs : List ℕ) → list_all is_name_byte xs ≡ true → list_all is_name_byte (map to_ascii_lowercase xs) ≡ true
bytes-folded [] e = refl
bytes-folded (x ∷ xs) e =
    let p = and_parts (is_name_byte x) (list_all is_name_byte xs) e in
    and_from _ _ (byte-folded x p.0) (bytes-folded xs p.1)

name-folded : (bytes : List ℕ) → is_name bytes ≡ true → is_name (map to_ascii_lowercase bytes) ≡ true
name-folded [] e = e
name-folded (x ∷ xs) e =
    let p = and_parts (is_ascii_alphabetic x) (list_all is_name_byte xs) e in
    and_from _ _ (letter-folded x p.0) (bytes-folded xs p.1)

twice-folded : (xs : List ℕ) → map to_ascii_lowercase xs ≡ map to_ascii_lowercase (map to_ascii_lowercase xs)
twice-folded [] = refl
twice-folded (x ∷ xs) =
    ap₂ (λ (y : ℕ) (ys : List ℕ). y ∷ ys) (sym (lowercase-lowercase x)) (twice-folded xs)

lower_folded : (bytes name : List ℕ) → IsName bytes name → IsLowerName (map to_ascii_lowercase bytes)
lower_folded bytes name is = record {
  spelled = name-folded bytes is.spelled;
  short = rw (length-map bytes to_ascii_lowercase) is.short;
  folded = twice-folded bytes;
}

lower_name : (bytes name : List ℕ) → IsName bytes name → IsLowerName name
lower_name bytes name is = subst IsLowerName (sym is.folded) (lower_folded bytes name is)

-- ---- the names among words

-- a word that is a name is one in lower case
abbrev pub IsLowerWord : Word → Type 0
IsLowerWord words.OpenParenthesis = Unit {0}
IsLowerWord words.CloseParenthesis = Unit {0}
IsLowerWord (words.Name name) = IsLowerName name
IsLowerWord (words.Variable name) = Unit {0}
IsLowerWord (words.Keyword name) = Unit {0}
IsLowerWord (words.Number n) = Unit {0}
IsLowerWord (words.SignedNumber n) = Unit {0}
IsLowerWord (words.Operator o) = Unit {0}

sign-lower : {bytes : List ℕ} {word : Word} → IsSign bytes word → IsLowerWord word
sign-lower table.open_parenthesis = tt
sign-lower table.close_parenthesis = tt
sign-lower table.plus = tt
sign-lower table.minus = tt
sign-lower table.times = tt
sign-lower table.divide = tt
sign-lower table.less = tt
sign-lower table.less_or_equal = tt
sign-lower table.equal = tt
sign-lower table.greater_or_equal = tt
sign-lower table.greater = tt

word-lower : {bytes : List ℕ} {word : Word} → IsWord bytes word → IsLowerWord word
word-lower (table.IsWord.sign is) = sign-lower is
word-lower (table.IsWord.name {bytes = bytes} {name = name} is) = lower_name bytes name is
word-lower (table.IsWord.variable is) = tt
word-lower (table.IsWord.keyword is) = tt
word-lower (table.IsWord.number is) = tt
word-lower (table.IsWord.signed_number is) = tt

pub tokens-lower : (ws : List Placed) (ts : List Token) → AllZip IsTokenOf ws ts → AllByRecursion IsLowerWord (token_words ts)
tokens-lower [] [] each = tt
tokens-lower [] (t ∷ ts) each = absurd each
tokens-lower (w ∷ ws) [] each = absurd each
tokens-lower (w ∷ ws) (t ∷ ts) each = (word-lower each.0.word, tokens-lower ws ts each.1)

args-lower : (args : List (List ℕ)) → AllByRecursion IsLowerWord (closed args) → AllByRecursion IsLowerName args
args-lower [] all = tt
args-lower (a ∷ rest_args) all = (all.0, args-lower rest_args all.1)

pub line-lower : (line : List ℕ) (s : Step) → IsStepLine line s → IsStep s
line-lower line s is =
    let all = subst (AllByRecursion IsLowerWord) is.are_words (tokens-lower is.are_tokens.words is.tokens is.are_tokens.each) in
    record { name = all.1.0; args = args-lower s.args all.1.1 }

-- ---- a whole text

reads_lower : {text : List ℕ} {steps : List Step} → ReadsAs text steps → AllByRecursion IsStep steps
reads_lower texts.nothing = tt
reads_lower (texts.silent f s more) = reads_lower more
reads_lower (texts.step {line = line} {first = first} f is more) = (line-lower line first is, reads_lower more)

pub reads_names : {text : List ℕ} {steps : List Step} → ReadsAs text steps → All IsStep steps
reads_names {steps = steps} reads = All-from_recursion IsStep steps (reads_lower reads)
