-- The marks of forms that grow at their end.
use Rattle.std.proofs.Common.{◌≡◌, ℕ, zero, suc, ◌<◌, length, Some, None, List, [], ◌∷◌, ◌++◌, Vec, Global, refl, sym, ap, ◌∙◌, append_assoc, rules, arith}
use Rattle.std.proofs.lemmas.List.{append-nil, nil_from_length, map-append}
use Rattle.std.proofs.lemmas.Grind.{flat_map-append}
use Rattle.std.specs.List.{flat_map}
use Rattle.hd_lex.specs.declared.token.Token.{Token}
use Rattle.hd_forms.specs.declared.error.ReadError.TheVariants as errors
use Rattle.hd_forms.specs.declared.forms.Form as forms
use Rattle.hd_forms.specs.declared.forms.Form.{Form, the_lemmas}
use Rattle.hd_forms.specs.declared.forms.OpenForm.{OpenForm}
use Rattle.hd_forms.specs.declared.word.FormWord.{FormWord}
use Rattle.hd_forms.specs.Forms.{Mark, opening, closing, symbol, Forms, none, word, list, append, marks_of, mark_of, marks_from, fault_from, parenthesis_fault}
use Rattle.hd_forms.specs.View.{form_view, forms_view}
use Rattle.hd_forms.specs.Nesting.{open_marks, marks_written}

-- ---- one form more

view-word : (at : ℕ) (w : FormWord) → form_view (forms.Word at w) ≡ word at w none
view-word at w = search (rules, the_lemmas)

view-list : (from : ℕ) (inside : Vec Form Global) (to : ℕ)
    → form_view (forms.List to from inside) ≡ list from (forms_view inside.items) to none
view-list from inside to = search (rules, the_lemmas)

pub append-assoc : (a b c : Forms) → append (append a b) c ≡ append a (append b c)
append-assoc none b c = refl
append-assoc (word at w rest) b c = ap (word at w) (append-assoc rest b c)
append-assoc (list from inside to rest) b c = ap (list from inside to) (append-assoc rest b c)

pub append-none : (a : Forms) → append a none ≡ a
append-none none = refl
append-none (word at w rest) = ap (word at w) (append-none rest)
append-none (list from inside to rest) = ap (list from inside to) (append-none rest)

-- forms one after the other are written one after the other
marks-append : (a b : Forms) → marks_of (append a b) ≡ marks_of a ++ marks_of b
marks-append none b = refl
marks-append (word at w rest) b = ap (λ (ms : List Mark). symbol at w ∷ ms) (marks-append rest b)
marks-append (list from inside to rest) b =
    ap (λ (ms : List Mark). opening from ∷ (marks_of inside ++ (closing to ∷ ms))) (marks-append rest b)
    ∙ ap (λ (ms : List Mark). opening from ∷ ms) (sym (append_assoc (marks_of inside) (closing to ∷ marks_of rest) (marks_of b)))

view-push : (fs : List Form) (f : Form) → forms_view (fs ++ f ∷ []) ≡ append (forms_view fs) (form_view f)
view-push [] f = append-none (form_view f)
view-push (g ∷ gs) f =
    ap (append (form_view g)) (view-push gs f) ∙ sym (append-assoc (form_view g) (forms_view gs) (form_view f))

marks-push : (fs : List Form) (f : Form)
    → marks_of (forms_view (fs ++ f ∷ [])) ≡ marks_of (forms_view fs) ++ marks_of (form_view f)
marks-push fs f = ap marks_of (view-push fs f) ∙ marks-append (forms_view fs) (form_view f)

-- a word after what was read
pub marks_written-word : (os : List OpenForm) (fs : List Form) (at : ℕ) (w : FormWord)
    → marks_written os (fs ++ forms.Word at w ∷ []) ≡ marks_written os fs ++ symbol at w ∷ []
marks_written-word os fs at w =
    ap (λ (ms : List Mark). flat_map open_marks os ++ ms)
    (marks-push fs (forms.Word at w) ∙ ap (λ (f : Forms). marks_of (forms_view fs) ++ marks_of f) (view-word at w))
    ∙ sym (append_assoc (flat_map open_marks os) (marks_of (forms_view fs)) (symbol at w ∷ []))

-- what an open form adds: what stands before it, its parenthesis, and what stands in it
written_inside : (os : List OpenForm) (o : OpenForm) (fs : List Form)
    → marks_written (os ++ o ∷ []) fs ≡ marks_written os o.before.items ++ (opening o.from ∷ marks_of (forms_view fs))
written_inside os o fs =
    let around = flat_map open_marks os in
    let before = marks_of (forms_view o.before.items) in
    let inside = marks_of (forms_view fs) in
    ap (λ (ms : List Mark). ms ++ inside) (flat_map-append open_marks os (o ∷ []) ∙ ap (λ (ms : List Mark). around ++ ms) (append-nil (open_marks o)))
    ∙ append_assoc around (open_marks o) inside
    ∙ ap (λ (ms : List Mark). around ++ ms) (append_assoc before (opening o.from ∷ []) inside)
    ∙ sym (append_assoc around before (opening o.from ∷ inside))

-- a form closed after what was read
pub marks_written-finish : (os : List OpenForm) (o : OpenForm) (inside : Vec Form Global) (to : ℕ)
    → marks_written os (o.before.items ++ forms.List to o.from inside ∷ []) ≡ marks_written (os ++ o ∷ []) inside.items ++ closing to ∷ []
marks_written-finish os o inside to =
    let around = flat_map open_marks os in
    let before = marks_of (forms_view o.before.items) in
    let opened = opening o.from ∷ marks_of (forms_view inside.items) in
    ap (λ (ms : List Mark). around ++ ms)
    (marks-push o.before.items (forms.List to o.from inside) ∙ ap (λ (f : Forms). before ++ marks_of f) (view-list o.from inside to))
    ∙ sym (append_assoc around before (opened ++ closing to ∷ []))
    ∙ sym (append_assoc (around ++ before) opened (closing to ∷ []))
    ∙ ap (λ (ms : List Mark). ms ++ closing to ∷ []) (sym (written_inside os o inside.items))
