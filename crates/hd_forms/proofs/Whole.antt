-- From whole texts to trees. The rule of the grammar and its reading are parameters, since domains
-- and problems share all of it.
use Rattle.std.proofs.Common.{◌≡◌, ◌⊎◌, inl, inr, ℕ, List, length, Option, Some, None, Result, Ok, Err, refl, sym, ap, ◌∙◌}
use Rattle.std.specs.Prelude.{IfOk, IfErr, MatchResult}
use Rattle.hd_base.specs.Answers.{Gives}
use Rattle.std.proofs.lemmas.Option.{same_Some}
use Rattle.hd_lex.specs.Text.{AreTokens, IsFault}
use Rattle.hd_lex.specs.declared.error.LexError.{LexError}
use Rattle.hd_lex.specs.declared.error.LexError.TheVariants as lexing
use Rattle.hd_lex.specs.declared.token.Token.{Token}
use Rattle.hd_lex.proofs.Telling.{answer_unique, text_fault_unique, bad-answered, tokens-say}
use Rattle.hd_forms.specs.declared.error.ReadError.{ReadError}
use Rattle.hd_forms.specs.declared.error.ReadError.TheVariants as errors
use Rattle.hd_forms.specs.Error.{of_lexer}
use Rattle.hd_forms.specs.Forms.{Mark, Forms, marks_of, marks_from, parenthesis_fault, Tells}
use Rattle.hd_forms.specs.Reading.{Refuses}
use Rattle.hd_forms.specs.Text.{HasMarks, IsFormsText, IsTextOf, IsUnbalanced, IsOutside, Explains, ExplainsForms}
use Rattle.hd_forms.proofs.OneForm.{same_forms}

-- ---- words and parentheses

-- a text has one list of marks
same_marks : (text : List ℕ) (ms ns : List Mark) → HasMarks text ms → HasMarks text ns → ms ≡ ns
same_marks text ms ns h k =
    sym h.each ∙ ap marks_from (answer_unique text h.tokens k.tokens h.are_tokens k.are_tokens) ∙ k.each

-- a text with a bad word has no marks
no_marks : (text : List ℕ) (ms : List Mark) (fault : LexError) → HasMarks text ms → IsFault text fault → ⊥
no_marks text ms fault h is = bad-answered text h.tokens fault is (tokens-say h.are_tokens)

pub is_forms : (text : List ℕ) (ts : List Token) (fs : Forms) → AreTokens text ts → marks_of fs ≡ marks_from ts
    → parenthesis_fault (length text) (marks_from ts) ≡ None → IsFormsText text fs
is_forms text ts fs are written balanced = record {
  marks = record { tokens = ts; are_tokens = are; each = sym written };
  depth = rw written balanced;
}

-- a text is written with one list of forms
one_forms : (text : List ℕ) (f g : Forms) → IsFormsText text f → IsFormsText text g → f ≡ g
one_forms text f g h k = same_forms f g (same_marks text (marks_of f) (marks_of g) h.marks k.marks)

-- what the fault of the words reports
pub words_explained : (text : List ℕ) (e : LexError) → (e ≡ lexing.NoMemory) ⊎ IsFault text e → ExplainsForms text (of_lexer e)
words_explained text lexing.NoMemory h = tt
words_explained text (lexing.BadByte at) (inl e) = absurd cc
words_explained text (lexing.BadByte at) (inr h) = h
words_explained text (lexing.BadNumber at) (inl e) = absurd cc
words_explained text (lexing.BadNumber at) (inr h) = h
words_explained text (lexing.NameTooLong at) (inl e) = absurd cc
words_explained text (lexing.NameTooLong at) (inr h) = h

-- what a fault of the parentheses reports
pub parentheses_explained : (text : List ℕ) (ts : List Token) (e : ReadError) → AreTokens text ts
    → Tells e (parenthesis_fault (length text) (marks_from ts)) → ExplainsForms text e
parentheses_explained text ts errors.NoMemory are tells = tt
parentheses_explained text ts (errors.Lex fault) are tells = absurd tells
parentheses_explained text ts (errors.Unbalanced at) are tells =
    record { marks = marks_from ts; has_marks = record { tokens = ts; are_tokens = are; each = refl }; fault = tells }
parentheses_explained text ts (errors.Unexpected at) are tells = absurd tells
parentheses_explained text ts (errors.Unsupported word at) are tells = absurd tells
parentheses_explained text ts (errors.TooDeep at) are tells =
    record { marks = marks_from ts; has_marks = record { tokens = ts; are_tokens = are; each = refl }; fault = tells }

-- ---- the grammar

-- the rule is read so, both ways
pub record IsReadBy {Tree : Type 0} (Says : Forms → Tree → Type 0) (read : Forms → Option Tree) : Type 0 where
  pub complete : (f : Forms) (t : Tree) → Says f t → read f ≡ Some t
  pub sound : (f : Forms) (t : Tree) → read f ≡ Some t → Says f t

-- what a text says is what is read of its forms
read_of : {Tree : Type 0} {Says : Forms → Tree → Type 0} {read : Forms → Option Tree} (by : IsReadBy Says read)
    (text : List ℕ) (fs : Forms) (t : Tree) → IsFormsText text fs → IsTextOf Says text t → read fs ≡ Some t
read_of {read = read} by text fs t h d =
    ap read (one_forms text fs d.forms h d.written) ∙ by.complete d.forms t d.says

pub one_tree : {Tree : Type 0} {Says : Forms → Tree → Type 0} {read : Forms → Option Tree} (by : IsReadBy Says read)
    (text : List ℕ) (a b : Tree) → IsTextOf Says text a → IsTextOf Says text b → a ≡ b
one_tree by text a b h k =
    same_Some a b (sym (by.complete h.forms a h.says) ∙ read_of by text h.forms b h.written k)

pub found_of : {Tree : Type 0} {Says : Forms → Tree → Type 0} {read : Forms → Option Tree} (by : IsReadBy Says read)
    (text : List ℕ) (fs : Forms) (r : Result Tree ReadError) → IsFormsText text fs → Gives Refuses (λ x. x) r (read fs)
    → IfOk r (IsTextOf Says text)
found_of by text fs (Ok t) h gives = record { forms = fs; written = h; says = by.sound fs t gives }
found_of by text fs (Err e) h gives = tt

outside_of : {Tree : Type 0} {Says : Forms → Tree → Type 0} {read : Forms → Option Tree} (by : IsReadBy Says read)
    (text : List ℕ) (fs : Forms) → IsFormsText text fs → read fs ≡ None → IsOutside Says text
outside_of {read = read} by text fs h e =
    record { forms = fs; written = h; outside = λ t d. let is : read fs ≡ Some t = read_of by text fs t h d in absurd cc }

pub refusal_of : {Tree : Type 0} {Says : Forms → Tree → Type 0} {read : Forms → Option Tree} (by : IsReadBy Says read)
    (text : List ℕ) (fs : Forms) (r : Result Tree ReadError) → IsFormsText text fs → Gives Refuses (λ x. x) r (read fs)
    → IfErr r (Explains Says text)
refusal_of by text fs (Ok t) h gives = tt
refusal_of by text fs (Err errors.NoMemory) h gives = tt
refusal_of by text fs (Err (errors.Lex e)) h gives = absurd gives
refusal_of by text fs (Err (errors.Unbalanced at)) h gives = absurd gives
refusal_of by text fs (Err (errors.Unexpected at)) h gives = outside_of by text fs h gives
refusal_of by text fs (Err (errors.Unsupported w at)) h gives = outside_of by text fs h gives
refusal_of by text fs (Err (errors.TooDeep at)) h gives = absurd gives

-- a refusal of the words or of the parentheses is one of the text
pub explained : {Tree : Type 0} (Says : Forms → Tree → Type 0) (text : List ℕ) (e : ReadError)
    → ExplainsForms text e → Explains Says text e
explained Says text errors.NoMemory h = tt
explained Says text (errors.Lex e) h = h
explained Says text (errors.Unbalanced at) h = h
explained Says text (errors.Unexpected at) h = absurd h
explained Says text (errors.Unsupported w at) h = absurd h
explained Says text (errors.TooDeep at) h = h

-- ---- what each text is reported

-- forms that are in order have no fault
in_order : (text : List ℕ) (fs : Forms) (e : ReadError) → IsFormsText text fs → IsUnbalanced text e → ⊥
in_order text fs e h u =
    let same = same_marks text (marks_of fs) u.marks h.marks u.has_marks in
    let right : parenthesis_fault (length text) u.marks ≡ None = ap (parenthesis_fault (length text)) (sym same) ∙ h.depth in
    let wrong = u.fault in
    absurd cc

-- a tree's text is answered by it, or refused for lack of memory
pub only_of : {Tree : Type 0} {Says : Forms → Tree → Type 0} {read : Forms → Option Tree} (by : IsReadBy Says read)
    (text : List ℕ) (r : Result Tree ReadError) → IfOk r (IsTextOf Says text) → IfErr r (Explains Says text)
    → (t : Tree) → IsTextOf Says text t → MatchResult r (λ answer. answer ≡ t) (λ e. e ≡ errors.NoMemory)
only_of by text (Ok a) found told t d = one_tree by text a t found d
only_of by text (Err errors.NoMemory) found told t d = refl
only_of by text (Err (errors.Lex e)) found told t d = absurd (no_marks text _ e d.written.marks told)
only_of by text (Err (errors.Unbalanced at)) found told t d = absurd (in_order text _ _ d.written told)
only_of by text (Err (errors.Unexpected at)) found told t d = absurd (told.outside t d)
only_of by text (Err (errors.Unsupported w at)) found told t d = absurd (told.outside t d)
only_of by text (Err (errors.TooDeep at)) found told t d = absurd (in_order text _ _ d.written told)

abbrev IsToldAs : {Tree : Type 0} → ReadError → Result Tree ReadError → Type 0
IsToldAs fault r = MatchResult r (λ _. ⊥) (λ e. (e ≡ errors.NoMemory) ⊎ (e ≡ fault))

-- a bad word is reported
pub bad_word_of : {Tree : Type 0} (Says : Forms → Tree → Type 0) (text : List ℕ) (r : Result Tree ReadError)
    → IfOk r (IsTextOf Says text) → IfErr r (Explains Says text)
    → (fault : LexError) → IsFault text fault → IsToldAs (errors.Lex fault) r
bad_word_of Says text (Ok a) found told fault is = no_marks text _ fault found.written.marks is
bad_word_of Says text (Err errors.NoMemory) found told fault is = inl refl
bad_word_of Says text (Err (errors.Lex e)) found told fault is = inr (ap errors.Lex (text_fault_unique text e fault told is))
bad_word_of Says text (Err (errors.Unbalanced at)) found told fault is = absurd (no_marks text _ fault told.has_marks is)
bad_word_of Says text (Err (errors.Unexpected at)) found told fault is = absurd (no_marks text _ fault told.written.marks is)
bad_word_of Says text (Err (errors.Unsupported w at)) found told fault is = absurd (no_marks text _ fault told.written.marks is)
bad_word_of Says text (Err (errors.TooDeep at)) found told fault is = absurd (no_marks text _ fault told.has_marks is)

one_fault : (text : List ℕ) (a b : ReadError) → IsUnbalanced text a → IsUnbalanced text b → a ≡ b
one_fault text a b h k =
    let same = same_marks text h.marks k.marks h.has_marks k.has_marks in
    same_Some a b (sym h.fault ∙ ap (parenthesis_fault (length text)) same ∙ k.fault)

-- a fault of the parentheses is reported
pub bad_parentheses_of : {Tree : Type 0} (Says : Forms → Tree → Type 0) (text : List ℕ) (r : Result Tree ReadError)
    → IfOk r (IsTextOf Says text) → IfErr r (Explains Says text)
    → (fault : ReadError) → IsUnbalanced text fault → IsToldAs fault r
bad_parentheses_of Says text (Ok a) found told fault is = in_order text _ fault found.written is
bad_parentheses_of Says text (Err errors.NoMemory) found told fault is = inl refl
bad_parentheses_of Says text (Err (errors.Lex e)) found told fault is = absurd (no_marks text _ e is.has_marks told)
bad_parentheses_of Says text (Err (errors.Unbalanced at)) found told fault is = inr (one_fault text _ fault told is)
bad_parentheses_of Says text (Err (errors.Unexpected at)) found told fault is = absurd (in_order text _ fault told.written is)
bad_parentheses_of Says text (Err (errors.Unsupported w at)) found told fault is = absurd (in_order text _ fault told.written is)
bad_parentheses_of Says text (Err (errors.TooDeep at)) found told fault is = inr (one_fault text _ fault told is)
