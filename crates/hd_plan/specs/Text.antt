-- What a plan file says, line by line. All of it is a rule of this project; the words of a line are
-- those of the specs of hd_lex.
use Rattle.std.specs.Prelude.{◌≡◌, ◌⊎◌, ℕ, ◌+◌, ◌<◌, List, [], ◌∷◌, ◌++◌, length, map, Bool, true, not, ◌==◌}
use Rattle.std.specs.List.{list_all, AllByRecursion}
use Rattle.hd_lex.specs.Byte.{is_line_byte}
use Rattle.hd_lex.specs.Text.{AreTokens}
use Rattle.hd_lex.specs.Word.{IsName}
use Rattle.hd_lex.specs.declared.token.Token.{Token}
use Rattle.hd_lex.specs.declared.token.Word.{Word}
use Rattle.hd_lex.specs.declared.token.Word.TheVariants as words
use Rattle.hd_plan.specs.declared.text_error.PlanTextError.{PlanTextError}
use Rattle.hd_plan.specs.declared.text_error.PlanTextError.TheVariants.{BadLine, NoMemory}
use Rattle.hd_plan.specs.declared.step.Step.{Step}

-- ---- one line

-- all bytes but the semicolon, which begins a comment
abbrev pub is_plain_byte : ℕ → Bool
is_plain_byte byte = not (byte == 59)

-- the words of a step: '(', its name, the names of its objects, ')'
abbrev pub step_words : Step → List Word
step_words s =
    words.OpenParenthesis ∷ words.Name s.name ∷ (map (λ arg. words.Name arg) s.args ++ (words.CloseParenthesis ∷ []))

-- the line has no word: it is blanks alone, or blanks and a comment
abbrev pub IsSilent : List ℕ → Type 0
IsSilent line = AreTokens line []

-- the line is this step: its words are just those of the step, with blanks anywhere between and
-- around, and no comment stands in it
pub record IsStepLine (line : List ℕ) (step : Step) : Type 0 where
  pub tokens : List Token
  pub are_tokens : AreTokens line tokens
  pub are_words : map (λ t. t.word) tokens ≡ step_words step
  pub plain : list_all is_plain_byte line ≡ true

-- the line is silent or a step
abbrev pub IsGoodLine : List ℕ → Type 0
IsGoodLine line = IsSilent line ⊎ ((step : Step) × IsStepLine line step)

-- ---- a whole text

-- the first line of a text, and what stands after it
pub data IsFirstLine : List ℕ → List ℕ → List ℕ → Type 0 where
  -- it ends with a line feed (10)
  ended : {line rest : List ℕ} → list_all is_line_byte line ≡ true → IsFirstLine (line ++ (10 ∷ rest)) line rest
  -- it ends with the text, if it has a byte
  last : {line : List ℕ} → list_all is_line_byte line ≡ true → 0 < length line → IsFirstLine line line []

-- the text reads as these steps: each of its lines is silent or the next step
pub data ReadsAs : List ℕ → List Step → Type 0 where
  -- the text ends
  nothing : ReadsAs [] []
  -- a silent line, and what stands after it
  silent : {text line rest : List ℕ} {steps : List Step} → IsFirstLine text line rest → IsSilent line
      → ReadsAs rest steps → ReadsAs text steps
  -- a step, and what stands after it
  step : {text line rest : List ℕ} {first : Step} {steps : List Step} → IsFirstLine text line rest
      → IsStepLine line first → ReadsAs rest steps → ReadsAs text (first ∷ steps)

-- the line with this number, counted from 1, is the first bad one
pub data IsFirstBadLine : List ℕ → ℕ → Type 0 where
  -- the first line is bad
  here : {text line rest : List ℕ} → IsFirstLine text line rest → ¬ IsGoodLine line → IsFirstBadLine text 1
  -- the first line is good, and a line after it is the first bad one
  later : {text line rest : List ℕ} {n : ℕ} → IsFirstLine text line rest → IsGoodLine line
      → IsFirstBadLine rest n → IsFirstBadLine text (1 + n)

-- the fault of a text: its first bad line; lack of memory is none
abbrev pub IsPlanTextFault : List ℕ → PlanTextError → Type 0
IsPlanTextFault text (BadLine n) = IsFirstBadLine text n
IsPlanTextFault text NoMemory = ⊥

-- ---- names

-- a name of a text in lower case
abbrev pub IsLowerName : List ℕ → Type 0
IsLowerName name = IsName name name

-- the names of a step are names of texts in lower case
pub record IsStep (step : Step) : Type 0 where
  pub name : IsLowerName step.name
  pub args : AllByRecursion IsLowerName step.args
