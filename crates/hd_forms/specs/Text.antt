-- Which texts say what by a rule over forms, and which refusal which other text has (all own).
use Rattle.std.specs.Prelude.{◌≡◌, ℕ, List, length, None, Some}
use Rattle.hd_lex.specs.Text.{AreTokens, IsFault}
use Rattle.hd_lex.specs.declared.token.Token.{Token}
use Rattle.hd_forms.specs.declared.error.ReadError.{ReadError}
use Rattle.hd_forms.specs.declared.error.ReadError.TheVariants as errors
use Rattle.hd_forms.specs.Forms.{Mark, Forms, marks_of, marks_from, parenthesis_fault}

-- the text has these marks: those of its tokens (own)
pub record HasMarks (text : List ℕ) (marks : List Mark) : Type 0 where
  pub tokens : List Token
  pub are_tokens : AreTokens text tokens
  pub each : marks_from tokens ≡ marks

-- the text is written with just these forms, and no more than 64 of them are open at once (own)
pub record IsFormsText (text : List ℕ) (forms : Forms) : Type 0 where
  pub marks : HasMarks text (marks_of forms)
  pub depth : parenthesis_fault (length text) (marks_of forms) ≡ None

-- the text is written with forms that say this, by such a rule (own)
pub record IsTextOf {Tree : Type 0} (Says : Forms → Tree → Type 0) (text : List ℕ) (tree : Tree) : Type 0 where
  pub forms : Forms
  pub written : IsFormsText text forms
  pub says : Says forms tree

-- the first fault of the text's parentheses is this one (own)
pub record IsUnbalanced (text : List ℕ) (error : ReadError) : Type 0 where
  pub marks : List Mark
  pub has_marks : HasMarks text marks
  pub fault : parenthesis_fault (length text) marks ≡ Some error

-- the text's words and parentheses are right, and it says nothing by the rule (own)
pub record IsOutside {Tree : Type 0} (Says : Forms → Tree → Type 0) (text : List ℕ) : Type 0 where
  pub forms : Forms
  pub written : IsFormsText text forms
  pub outside : (tree : Tree) → ¬ IsTextOf Says text tree

-- what each refusal reports of a text that is to say something by the rule: its first bad word, the
-- first fault of its parentheses, or that it is outside of the grammar; lack of memory reports
-- nothing (own)
abbrev pub Explains : {Tree : Type 0} → (Forms → Tree → Type 0) → List ℕ → ReadError → Type 0
Explains Says text errors.NoMemory = Unit {0}
Explains Says text (errors.Lex fault) = IsFault text fault
Explains Says text (errors.Unbalanced at) = IsUnbalanced text (errors.Unbalanced at)
Explains Says text (errors.Unexpected at) = IsOutside Says text
Explains Says text (errors.Unsupported word at) = IsOutside Says text
Explains Says text (errors.TooDeep at) = IsUnbalanced text (errors.TooDeep at)

-- what each refusal of words and parentheses reports of a text (own)
abbrev pub ExplainsForms : List ℕ → ReadError → Type 0
ExplainsForms text errors.NoMemory = Unit {0}
ExplainsForms text (errors.Lex fault) = IsFault text fault
ExplainsForms text (errors.Unbalanced at) = IsUnbalanced text (errors.Unbalanced at)
ExplainsForms text (errors.Unexpected at) = ⊥
ExplainsForms text (errors.Unsupported word at) = ⊥
ExplainsForms text (errors.TooDeep at) = IsUnbalanced text (errors.TooDeep at)
