-- What is nested of a text, token by token.
use Rattle.std.proofs.Common.{◌≡◌, ℕ, zero, suc, ◌+◌, ◌-◌, ◌<◌, length, take, drop, Some, None, Ok, List, [], ◌∷◌, ◌++◌, Vec, vec_len, Global, refl, sym, ap, subst, ◌∙◌, append_assoc, arith}
use Rattle.std.proofs.lemmas.List.{append-nil, map-append}
use Rattle.hd_lex.specs.Reading.{tokens_of, Says, IsRefusal, IsReadTo, with_front}
use Rattle.hd_lex.specs.Text.{BeginsWithToken}
use Rattle.hd_lex.specs.declared.error.LexError.{LexError}
use Rattle.hd_lex.specs.declared.token.Token.{Token}
use Rattle.hd_lex.proofs.Fronts.{front_more}
use Rattle.hd_lex.proofs.Reading.{none_read, all_read, refused_rest}
use Rattle.hd_lex.proofs.Telling.{says-tokens, refusal-is}
use Rattle.hd_forms.specs.Error.{of_lexer}
use Rattle.hd_forms.specs.Forms.{Mark, marks_of, mark_of, marks_from, fault_from, parenthesis_fault, Tells}
use Rattle.hd_forms.specs.Nesting.{marks_written, HasTokens, IsNested}
use Rattle.hd_forms.specs.Text.{IsFormsText, ExplainsForms}
use Rattle.hd_forms.specs.View.{forms_view}
use Rattle.hd_forms.specs.declared.error.ReadError.{ReadError}
use Rattle.hd_forms.specs.declared.error.ReadError.TheVariants as errors
use Rattle.hd_forms.specs.declared.forms.Form.{Form}
use Rattle.hd_forms.specs.declared.forms.OpenForm.{OpenForm}
use Rattle.hd_forms.proofs.Whole.{is_forms, words_explained, parentheses_explained}

-- ---- step by step

-- nothing is read yet
pub nested-start : (text : List ℕ) (around : Vec OpenForm Global) (forms : List Form) → vec_len around ≡ 0 → around.items ≡ []
    → forms ≡ [] → IsNested text around forms 0 text
nested-start text around forms none nothing empty = record {
  tokens = [];
  read = none_read 0 text;
  written = rw (nothing, empty) refl;
  fault = λ end more. ap (λ (depth : ℕ). fault_from end depth more) none;
}

-- a blank or a comment changes nothing
pub nested-blank : (text : List ℕ) (around : Vec OpenForm Global) (forms : List Form) (at : ℕ) (rest : List ℕ) (len : ℕ)
    → IsNested text around forms at rest → BeginsWithToken at rest None (at + len) (drop len rest)
    → IsNested text around forms (at + len) (take (length rest - len) (drop len rest))
nested-blank text around forms at rest len so_far begins = record {
  tokens = so_far.tokens;
  read = front_more 0 text so_far.tokens so_far.tokens at rest None len (sym (append-nil so_far.tokens)) begins so_far.read;
  written = so_far.written;
  fault = so_far.fault;
}

-- the marks of tokens, one more, and others
marks-more : (tokens : List Token) (token : Token) (more : List Mark)
    → marks_from (tokens ++ token ∷ []) ++ more ≡ marks_from tokens ++ (mark_of token ∷ more)
marks-more tokens token more =
    ap (λ (ms : List Mark). ms ++ more) (map-append mark_of tokens (token ∷ [])) ∙ append_assoc (marks_from tokens) (mark_of token ∷ []) more

-- a token that is taken is one more
pub nested-token : (text : List ℕ) (around later : Vec OpenForm Global) (forms nested : List Form) (at : ℕ) (rest : List ℕ) (token : Token)
    (len : ℕ)
    → IsNested text around forms at rest → BeginsWithToken at rest (Some token) (at + len) (drop len rest)
    → marks_written later.items nested ≡ marks_written around.items forms ++ mark_of token ∷ []
    → ((end : ℕ) (more : List Mark) → fault_from end (vec_len around) (mark_of token ∷ more) ≡ fault_from end (vec_len later) more)
    → IsNested text later nested (at + len) (take (length rest - len) (drop len rest))
nested-token text around later forms nested at rest token len so_far begins written goes_on = record {
  tokens = so_far.tokens ++ token ∷ [];
  read = front_more 0 text so_far.tokens (so_far.tokens ++ token ∷ []) at rest (Some token) len refl begins so_far.read;
  written = written ∙ ap (λ (ms : List Mark). ms ++ mark_of token ∷ []) so_far.written ∙ sym (map-append mark_of so_far.tokens (token ∷ []));
  fault = λ end more. sym (goes_on end more) ∙ so_far.fault end (mark_of token ∷ more)
      ∙ ap (parenthesis_fault end) (sym (marks-more so_far.tokens token more));
}

-- ---- refusals

-- the first bad word of the rest is that of the text
pub words_told : (text : List ℕ) (tokens : List Token) (at : ℕ) (rest : List ℕ) (e : LexError)
    → IsReadTo 0 text tokens at rest → IsRefusal at rest e → ExplainsForms text (of_lexer e)
words_told text tokens at rest e read refused =
    words_explained text e (refusal-is 0 text e (refused_rest 0 text tokens at rest e read refused))

-- what was read, and the tokens of the rest, are those of the text
says-all : (text : List ℕ) (tokens : List Token) (at : ℕ) (rest : List ℕ) → IsReadTo 0 text tokens at rest
    → (more : HasTokens at rest) → Says 0 text (Ok (tokens ++ more.tokens))
says-all text tokens at rest read more =
    let said = read more.says.words more.says.are_words in
    record { words = said.words; are_words = said.are_words; tokens = said.tokens ∙ ap (with_front tokens) more.says.tokens }

-- a fault of the parentheses, where no bad word follows
pub parentheses_told : (text : List ℕ) (around : Vec OpenForm Global) (forms : List Form) (at : ℕ) (rest : List ℕ) (token : Token)
    (len : ℕ) (e : ReadError)
    → IsNested text around forms at rest → BeginsWithToken at rest (Some token) (at + len) (drop len rest)
    → HasTokens (at + len) (take (length rest - len) (drop len rest))
    → ((end : ℕ) (more : List Mark) → Tells e (fault_from end (vec_len around) (mark_of token ∷ more)))
    → ExplainsForms text e
parentheses_told text around forms at rest token len e so_far begins more tells =
    let read = front_more 0 text so_far.tokens (so_far.tokens ++ token ∷ []) at rest (Some token) len refl begins so_far.read in
    let says = says-all text (so_far.tokens ++ token ∷ []) _ _ read more in
    let marks : marks_from ((so_far.tokens ++ token ∷ []) ++ more.tokens) ≡ marks_from so_far.tokens ++ (mark_of token ∷ marks_from more.tokens) =
    map-append mark_of (so_far.tokens ++ token ∷ []) more.tokens ∙ marks-more so_far.tokens token (marks_from more.tokens) in
    parentheses_explained text _ e (says-tokens says) (
    subst (Tells e) (so_far.fault (length text) (mark_of token ∷ marks_from more.tokens) ∙ ap (parenthesis_fault (length text)) (sym marks))
    (tells (length text) (marks_from more.tokens))
    )

-- ---- at the end

-- forms that are all closed are those of the text
pub nested-forms : (text : List ℕ) (around : Vec OpenForm Global) (forms : List Form) (at : ℕ)
    → IsNested text around forms at [] → vec_len around ≡ 0 → around.items ≡ [] → IsFormsText text (forms_view forms)
nested-forms text around forms at all none nothing =
    let says = all_read 0 text all.tokens at [] all.read refl in
    let written : marks_of (forms_view forms) ≡ marks_from all.tokens =
    sym (ap (λ (os : List OpenForm). marks_written os forms) nothing) ∙ all.written in
    let balanced : parenthesis_fault (length text) (marks_from all.tokens) ≡ None =
    ap (parenthesis_fault (length text)) (sym (append-nil (marks_from all.tokens))) ∙ sym (all.fault (length text) [])
    ∙ ap (λ (depth : ℕ). fault_from (length text) depth []) none in
    is_forms text all.tokens (forms_view forms) (says-tokens says) written balanced

-- a form that is open at the end is the fault
pub nested-open : (text : List ℕ) (around : Vec OpenForm Global) (forms : List Form) (at : ℕ)
    → IsNested text around forms at [] → 0 < vec_len around → ExplainsForms text (errors.Unbalanced (length text))
nested-open text around forms at all some =
    let says = all_read 0 text all.tokens at [] all.read refl in
    let outer = vec_len around - 1 in
    let is_open : vec_len around ≡ suc outer = omega (arith, some) in
    parentheses_explained text all.tokens (errors.Unbalanced (length text)) (says-tokens says) (
    ap (parenthesis_fault (length text)) (sym (append-nil (marks_from all.tokens))) ∙ sym (all.fault (length text) [])
    ∙ ap (λ (depth : ℕ). fault_from (length text) depth []) is_open
    )
