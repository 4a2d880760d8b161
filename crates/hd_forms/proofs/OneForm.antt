-- Marks are those of one list of forms alone: put together again they give the forms back.
use Rattle.std.proofs.Common.{◌≡◌, ℕ, List, [], ◌∷◌, ◌++◌, Option, Some, None, sym, ap, ◌∙◌, append_assoc}
use Rattle.std.proofs.lemmas.List.{append-nil}
use Rattle.std.proofs.lemmas.Option.{same_Some}
use Rattle.hd_forms.specs.Forms.{Mark, opening, closing, symbol, Forms, none, word, list, append, marks_of}
use Rattle.hd_forms.proofs.Written.{append-assoc, append-none}

-- a form that is begun: the place of its parenthesis, and the forms before it
record Begun : Type 0 where
  from : ℕ
  before : Forms

-- the forms that marks put together, where these are begun, the innermost first, and these stand in
-- the innermost; none where the parentheses do not fit
abbrev together : List Mark → List Begun → Forms → Option Forms
together [] [] done = Some done
together [] (begun ∷ around) done = None
together (symbol at w ∷ marks) around done = together marks around (append done (word at w none))
together (opening at ∷ marks) around done = together marks (record { from = at; before = done } ∷ around) none
together (closing at ∷ marks) [] done = None
together (closing at ∷ marks) (begun ∷ around) done = together marks around (append begun.before (list begun.from done at none))

-- the marks of forms put these forms after what is there
put_behind : (f : Forms) (marks : List Mark) (around : List Begun) (done : Forms)
    → together (marks_of f ++ marks) around done ≡ together marks around (append done f)
put_behind none marks around done = ap (together marks around) (sym (append-none done))
put_behind (word at w rest) marks around done =
    put_behind rest marks around (append done (word at w none)) ∙ ap (together marks around) (append-assoc done (word at w none) rest)
put_behind (list from inside to rest) marks around done =
    let begun : Begun = record { from = from; before = done } in
    ap (λ (ms : List Mark). together ms (begun ∷ around) none) (append_assoc (marks_of inside) (closing to ∷ marks_of rest) marks)
    ∙ put_behind inside (closing to ∷ (marks_of rest ++ marks)) (begun ∷ around) none
    ∙ put_behind rest marks around (append done (list from inside to none))
    ∙ ap (together marks around) (append-assoc done (list from inside to none) rest)

given_back : (f : Forms) → together (marks_of f) [] none ≡ Some f
given_back f = ap (λ (ms : List Mark). together ms [] none) (sym (append-nil (marks_of f))) ∙ put_behind f [] [] none

pub same_forms : (f g : Forms) → marks_of f ≡ marks_of g → f ≡ g
same_forms f g same = same_Some f g (sym (given_back f) ∙ ap (λ (ms : List Mark). together ms [] none) same ∙ given_back g)
