-- What has been read of nested forms, while some of them are open (own).
use Rattle.std.specs.Prelude.{◌≡◌, ℕ, List, [], ◌∷◌, ◌++◌, Ok, Vec, vec_len}
use Rattle.std.specs.Global.{Global}
use Rattle.std.specs.List.{flat_map}
use Rattle.hd_forms.specs.declared.forms.Form.{Form}
use Rattle.hd_forms.specs.declared.forms.OpenForm.{OpenForm}
use Rattle.hd_lex.specs.Reading.{Says, IsReadTo}
use Rattle.hd_lex.specs.declared.token.Token.{Token}
use Rattle.hd_forms.specs.Forms.{Mark, opening, marks_of, marks_from, fault_from, parenthesis_fault}
use Rattle.hd_forms.specs.View.{forms_view}

-- what stands before an open form, and its parenthesis (own)
abbrev pub open_marks : OpenForm → List Mark
open_marks form = marks_of (forms_view form.before.items) ++ opening form.from ∷ []

-- the marks that were read, where these forms are open, the innermost last, and these stand in the
-- innermost (own)
abbrev pub marks_written : List OpenForm → List Form → List Mark
marks_written around forms = flat_map open_marks around ++ marks_of (forms_view forms)

-- a text that begins at this place has tokens, and no bad word (own)
pub record HasTokens (at : ℕ) (text : List ℕ) : Type 0 where
  pub tokens : List Token
  pub says : Says at text (Ok tokens)

-- what was read of a text up to where this rest begins: its tokens, which are written as these
-- forms, some of them open, and in which no fault of the parentheses stands (own)
pub record IsNested (text : List ℕ) (around : Vec OpenForm Global) (forms : List Form) (at : ℕ) (rest : List ℕ) : Type 0 where
  pub tokens : List Token
  pub read : IsReadTo 0 text tokens at rest
  pub written : marks_written around.items forms ≡ marks_from tokens
  pub fault : (end : ℕ) (more : List Mark)
      → fault_from end (vec_len around) more ≡ parenthesis_fault end (marks_from tokens ++ more)
