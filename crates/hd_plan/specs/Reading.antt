-- What the private functions of this crate give. Public contracts cite `Text` in their place.
use Rattle.std.specs.Prelude.{◌≡◌, ℕ, ◌+◌, List, [], ◌∷◌, ◌++◌, map, Bool, true, false, ◌&&◌, Option, Some, None}
use Rattle.hd_lex.specs.declared.token.Token.{Token}
use Rattle.hd_lex.specs.declared.token.Word.{Word}
use Rattle.hd_lex.specs.declared.token.Word.TheVariants as words
use Rattle.hd_plan.specs.Text.{IsSilent, IsStepLine, IsGoodLine, ReadsAs, IsFirstBadLine}
use Rattle.hd_plan.specs.declared.text_error.PlanTextError.{PlanTextError}
use Rattle.hd_plan.specs.declared.text_error.PlanTextError.TheVariants.{BadLine, NoMemory}
use Rattle.hd_plan.specs.declared.line.PlanLine.{PlanLine}
use Rattle.hd_plan.specs.declared.line.PlanLine.TheVariants as lines
use Rattle.hd_plan.specs.declared.step.Step.{Step}

-- what the tokens are
abbrev pub token_words : List Token → List Word
token_words tokens = map (λ t. t.word) tokens

-- the name that the word is, if it is one
abbrev pub name_in : Word → Option (List ℕ)
name_in words.OpenParenthesis = None
name_in words.CloseParenthesis = None
name_in (words.Name name) = Some name
name_in (words.Variable name) = None
name_in (words.Keyword name) = None
name_in (words.Number n) = None
name_in (words.SignedNumber n) = None
name_in (words.Operator o) = None

-- a token is an opening parenthesis
abbrev pub is_open : Word → Bool
is_open words.OpenParenthesis = true
is_open words.CloseParenthesis = false
is_open (words.Name name) = false
is_open (words.Variable name) = false
is_open (words.Keyword name) = false
is_open (words.Number n) = false
is_open (words.SignedNumber n) = false
is_open (words.Operator o) = false

-- a token is a closing parenthesis
abbrev pub is_close : Word → Bool
is_close words.OpenParenthesis = false
is_close words.CloseParenthesis = true
is_close (words.Name name) = false
is_close (words.Variable name) = false
is_close (words.Keyword name) = false
is_close (words.Number n) = false
is_close (words.SignedNumber n) = false
is_close (words.Operator o) = false

-- nothing follows
abbrev pub is_none : List Word → Bool
is_none [] = true
is_none (w ∷ ws) = false

-- these names, and then more, if there are any
abbrev pub behind_args : List (List ℕ) → Option (List (List ℕ)) → Option (List (List ℕ))
behind_args front None = None
behind_args front (Some names) = Some (front ++ names)

-- a name and those that follow, or the end
abbrev pub args_by : Option (List ℕ) → Bool → Option (List (List ℕ)) → Option (List (List ℕ))
args_by (Some name) ends more = behind_args (name ∷ []) more
args_by None true more = Some []
args_by None false more = None

-- the names in front of a closing parenthesis with which the words end
unfoldable pub args_of : List Word → Option (List (List ℕ))
args_of [] = None
args_of (w ∷ ws) = args_by (name_in w) (is_close w && is_none ws) (args_of ws)

-- the step of a name and arguments, if both are there and a parenthesis opens it
abbrev pub step_by_name : Bool → Option (List ℕ) → Option (List (List ℕ)) → Option Step
step_by_name false name args = None
step_by_name true None args = None
step_by_name true (Some name) None = None
step_by_name true (Some name) (Some args) = Some (record { name = name; args = args })

-- the step that the words are, if they are one
abbrev pub step_of : List Word → Option Step
step_of [] = None
step_of (w ∷ []) = None
step_of (w ∷ v ∷ ws) = step_by_name (is_open w) (name_in v) (args_of ws)

-- what is said of a line holds
abbrev pub IsSaid : List ℕ → PlanLine → Type 0
IsSaid line lines.Silent = IsSilent line
IsSaid line (lines.Step step) = IsStepLine line step
IsSaid line lines.Bad = ¬ IsGoodLine line

-- the line says these steps: none or one
pub data LineSays : List ℕ → List Step → Type 0 where
  silent : {line : List ℕ} → IsSilent line → LineSays line []
  step : {line : List ℕ} {s : Step} → IsStepLine line s → LineSays line (s ∷ [])

-- what the line says is added
pub record Adds (line : List ℕ) (old new : List Step) : Type 0 where
  pub said : List Step
  pub says : LineSays line said
  pub added : new ≡ old ++ said

-- the line with this number is bad, or memory ran out
abbrev pub IsLineFault : List ℕ → ℕ → PlanTextError → Type 0
IsLineFault line number NoMemory = Unit {0}
IsLineFault line number (BadLine n) = (n ≡ number) × (¬ IsGoodLine line)

-- a text was read up to where the rest begins: however the rest reads, so does the text, after
-- these steps and these many lines
pub record IsPlanReadTo (text : List ℕ) (steps : List Step) (number : ℕ) (rest : List ℕ) : Type 0 where
  pub good : (more : List Step) → ReadsAs rest more → ReadsAs text (steps ++ more)
  pub bad : (n : ℕ) → IsFirstBadLine rest n → IsFirstBadLine text (number + n)
