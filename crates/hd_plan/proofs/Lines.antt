-- What one line says, and where the first line of a text ends.
use Rattle.std.proofs.Common.{◌≡◌, ◌⊎◌, inl, inr, ℕ, ◌-◌, ◌<◌, List, [], ◌∷◌, ◌++◌, length, take, drop, Bool, true, false, Option, Some, None, refl, sym, ap, subst, ◌∙◌, arith, length-append}
use Rattle.std.specs.List.{prefix_len, list_all}
use Rattle.std.proofs.lemmas.List.{append-nil, take_rest}
use Rattle.std.proofs.lemmas.Option.{same_Some, none-some}
use Rattle.std.proofs.lemmas.Bool.Decides.{nat_tests}
use Rattle.hd_lex.specs.Byte.{is_line_byte}
use Rattle.hd_lex.specs.Text.{IsRun, AreTokens, IsFault as IsLexFault}
use Rattle.hd_lex.specs.declared.error.LexError.{LexError}
use Rattle.hd_lex.specs.declared.token.Token.{Token}
use Rattle.hd_lex.proofs.Runs.{run_of, take-run, drop-run}
use Rattle.hd_lex.proofs.Telling.{answer_unique, bad-answered, tokens-say, text-good_or_bad}
use Rattle.hd_plan.specs.declared.step.Step.{Step}
use Rattle.hd_plan.specs.Reading.{token_words, step_of}
use Rattle.hd_plan.specs.Text as texts
use Rattle.hd_plan.specs.Text.{is_plain_byte, step_words, IsSilent, IsStepLine, IsGoodLine, IsFirstLine}
use Rattle.hd_plan.proofs.Shapes.{step-words, step-read}

-- ---- one line

pub line_is_silent : {line : List ℕ} (ts : List Token) → AreTokens line ts → length ts ≡ 0 → IsSilent line
line_is_silent [] are none = are
line_is_silent (t ∷ ts) are none = absurd (omega (arith, none))

pub line_is_step : {line : List ℕ} (ts : List Token) (s : Step) → AreTokens line ts → list_all is_plain_byte line ≡ true
    → step_of (token_words ts) ≡ Some s → IsStepLine line s
line_is_step ts s are plain is = record { tokens = ts; are_tokens = are; are_words = step-words (token_words ts) s is; plain = plain }

-- the tokens of a step are read as that step
step_tokens : {line : List ℕ} (ts : List Token) (s : Step) → AreTokens line ts → IsStepLine line s → step_of (token_words ts) ≡ Some s
step_tokens {line = line} ts s are is =
    let same : ts ≡ is.tokens = answer_unique line ts is.tokens are is.are_tokens in
    ap (λ (x : List Token). step_of (token_words x)) same ∙ (ap step_of is.are_words ∙ step-read s)

-- a line is one step
pub step_unique : {line : List ℕ} {a b : Step} → IsStepLine line a → IsStepLine line b → a ≡ b
step_unique {a = a} {b = b} is also =
    same_Some a b (sym (step_tokens is.tokens a is.are_tokens is) ∙ step_tokens is.tokens b is.are_tokens also)

-- a silent line is no step
pub silent-no_step : {line : List ℕ} {s : Step} → IsSilent line → IsStepLine line s → ⊥
silent-no_step {s = s} silent is = none-some s (step_tokens [] s silent is)

pub commented_bad : {line : List ℕ} (ts : List Token) → AreTokens line ts → 0 < length ts
    → list_all is_plain_byte line ≡ false → ¬ IsGoodLine line
commented_bad {line = line} ts are some commented (inl silent) =
    let none : ts ≡ [] = answer_unique line ts [] are silent in absurd (omega (arith, ap length none))
commented_bad ts are some commented (inr step) = let plain = step.1.plain in cc

pub misshaped_bad : {line : List ℕ} (ts : List Token) → AreTokens line ts → 0 < length ts
    → step_of (token_words ts) ≡ None → ¬ IsGoodLine line
misshaped_bad {line = line} ts are some misshaped (inl silent) =
    let none : ts ≡ [] = answer_unique line ts [] are silent in absurd (omega (arith, ap length none))
misshaped_bad ts are some misshaped (inr step) = none-some step.0 (sym misshaped ∙ step_tokens ts step.0 are step.1)

pub faulty_bad : {line : List ℕ} (fault : LexError) → IsLexFault line fault → ¬ IsGoodLine line
faulty_bad {line = line} fault is (inl silent) = bad-answered line [] fault is (tokens-say silent)
faulty_bad {line = line} fault is (inr step) = bad-answered line step.1.tokens fault is (tokens-say step.1.are_tokens)

-- a line is silent, a step, or bad
pub record IsOne (line : List ℕ) : Type 0 where
  pub one : IsSilent line ⊎ (((s : Step) × IsStepLine line s) ⊎ (¬ IsGoodLine line))

tokens_decide : {line : List ℕ} (ts : List Token) → AreTokens line ts → (plain : Bool) → list_all is_plain_byte line ≡ plain
    → (s : Option Step) → step_of (token_words ts) ≡ s → IsOne line
tokens_decide [] are plain p s e = record { one = inl are }
tokens_decide (t ∷ ts) are false p s e = record { one = inr (inr (commented_bad (t ∷ ts) are (omega arith) p)) }
tokens_decide (t ∷ ts) are true p None e = record { one = inr (inr (misshaped_bad (t ∷ ts) are (omega arith) e)) }
tokens_decide (t ∷ ts) are true p (Some s) e = record { one = inr (inl (s, line_is_step (t ∷ ts) s are p e)) }

pub line_decide : (line : List ℕ) → IsOne line
line_decide line =
    elim (text-good_or_bad line) [
      | inl good ↦ tokens_decide good.0 good.1 (list_all is_plain_byte line) refl (step_of (token_words good.0)) refl
      | inr bad ↦ record { one = inr (inr (faulty_bad bad.0 bad.1)) }
    ]

-- ---- the first line

-- the first line is a longest run, and a line feed may follow it
record IsCut (text line rest : List ℕ) : Type 0 where
  pub behind : List ℕ
  pub run : IsRun is_line_byte text line behind
  pub same : rest ≡ drop 1 behind

first-run : {text line rest : List ℕ} → IsFirstLine text line rest → IsCut text line rest
first-run (texts.ended {rest = rest} plain) =
    record { behind = 10 ∷ rest; run = record { parts = refl; all = plain; longest = refl }; same = refl }
first-run (texts.last {line = line} plain some) =
    record { behind = []; run = record { parts = sym (append-nil line); all = plain; longest = tt }; same = refl }

pub first-some : {text line rest : List ℕ} → IsFirstLine text line rest → 0 < length text
first-some (texts.ended {line = line} {rest = rest} plain) = omega (arith, length-append line (10 ∷ rest))
first-some (texts.last plain some) = some

-- a text has one first line, with one rest after it
pub same_line : {text line rest also others : List ℕ} → IsFirstLine text line rest → IsFirstLine text also others → line ≡ also
same_line f g =
    let a = first-run f in
    let b = first-run g in
    sym (take-run is_line_byte a.run) ∙ take-run is_line_byte b.run

pub same_rest : {text line rest also others : List ℕ} → IsFirstLine text line rest → IsFirstLine text also others → rest ≡ others
same_rest f g =
    let a = first-run f in
    let b = first-run g in
    let behind : a.behind ≡ b.behind = sym (drop-run is_line_byte a.run) ∙ drop-run is_line_byte b.run in
    a.same ∙ (ap (drop 1) behind ∙ sym b.same)

line_feed : (x : ℕ) → is_line_byte x ≡ false → x ≡ 10
line_feed x e = grind (arith, nat_tests)

first-from_run : {text line : List ℕ} (behind : List ℕ) → 0 < length text → IsRun is_line_byte text line behind
    → IsFirstLine text line (drop 1 behind)
first-from_run {text = text} {line = line} [] some run =
    let same : text ≡ line = run.parts ∙ append-nil line in
    subst (λ (t : List ℕ). IsFirstLine t line []) (sym same)
    (texts.last run.all (subst (λ (t : List ℕ). 0 < length t) same some))
first-from_run {text = text} {line = line} (x ∷ xs) some run =
    let same : text ≡ line ++ (10 ∷ xs) = run.parts ∙ ap (λ (y : ℕ). line ++ (y ∷ xs)) (line_feed x run.longest) in
    subst (λ (t : List ℕ). IsFirstLine t line xs) (sym same) (texts.ended run.all)

-- each text that has a byte has a first line
pub first_line : (text : List ℕ) → 0 < length text
    → IsFirstLine text (take (prefix_len is_line_byte text) text) (drop 1 (drop (prefix_len is_line_byte text) text))
first_line text some = first-from_run (drop (prefix_len is_line_byte text) text) some (run_of is_line_byte text)

-- the same, as the loop cuts it
pub first_cut : (text : List ℕ) (len : ℕ) → 0 < length text → len ≡ prefix_len is_line_byte text
    → IsFirstLine text (take len text) (drop 1 (take (length text - len) (drop len text)))
first_cut text len some is = rw (take_rest text len, is) (first_line text some)
