-- The names in the forms of a text are names in lower case.
use Rattle.std.proofs.Common.{◌≡◌, ℕ, Bool, true, false, List, [], ◌∷◌, ◌++◌, subst}
use Rattle.std.specs.Prelude.{if◌then◌else◌, codes}
use Rattle.std.specs.Str.{bytes_eq}
use Rattle.std.specs.List.{AllByRecursion}
use Rattle.hd_lex.specs.declared.token.Token.{Token}
use Rattle.hd_lex.specs.declared.token.Word as lexer
use Rattle.hd_lex.specs.declared.token.Word.TheVariants as tokens
use Rattle.hd_forms.specs.declared.word.ChangeWord.TheVariants as changes
use Rattle.hd_forms.specs.declared.word.FormWord.{FormWord}
use Rattle.hd_forms.specs.declared.word.FormWord.TheVariants as words
use Rattle.hd_forms.specs.Forms.{Mark, opening, closing, symbol, Forms, none, word, list, mark_at, marks_of, marks_from}
use Rattle.hd_forms.specs.Text.{HasMarks}
use Rattle.hd_forms.specs.Word.{is_unsupported_name, name_word}
use Rattle.hd_plan.specs.Reading.{token_words}
use Rattle.hd_plan.specs.Text.{IsLowerName}
use Rattle.hd_plan.proofs.Lowered.{IsLowerWord, tokens-lower}

-- a word that is a name is one in lower case
abbrev pub IsLowerSymbol : FormWord → Type 0
IsLowerSymbol words.And = Unit {0}
IsLowerSymbol words.Not = Unit {0}
IsLowerSymbol (words.Change c) = Unit {0}
IsLowerSymbol (words.Unsupported n) = Unit {0}
IsLowerSymbol (words.Name n) = IsLowerName n
IsLowerSymbol (words.Keyword n) = Unit {0}
IsLowerSymbol (words.Variable n) = Unit {0}
IsLowerSymbol (words.Operator o) = Unit {0}
IsLowerSymbol (words.Number v) = Unit {0}

abbrev IsLowerMark : Mark → Type 0
IsLowerMark (opening at) = Unit {0}
IsLowerMark (closing at) = Unit {0}
IsLowerMark (symbol at w) = IsLowerSymbol w

-- so are all names in forms
abbrev pub AreLower : Forms → Type 0
AreLower none = Unit {0}
AreLower (word at w rest) = IsLowerSymbol w × AreLower rest
AreLower (list from inside to rest) = AreLower inside × AreLower rest

-- ---- from tokens to marks

-- of the tests of a word that is spelled as a name
chosen-lower : (a b c d e f g : Bool) (n : List ℕ) → IsLowerName n
    → IsLowerSymbol
    (if a then words.And
    else (if b then words.Not
    else (if c then words.Change changes.Assign
    else (if d then words.Change changes.Increase
    else (if e then words.Change changes.Decrease
    else (if f then words.Change changes.ScaleUp
    else (if g then words.Unsupported n
    else words.Name n)))))))
chosen-lower true b c d e f g n lower = tt
chosen-lower false true c d e f g n lower = tt
chosen-lower false false true d e f g n lower = tt
chosen-lower false false false true e f g n lower = tt
chosen-lower false false false false true f g n lower = tt
chosen-lower false false false false false true g n lower = tt
chosen-lower false false false false false false true n lower = tt
chosen-lower false false false false false false false n lower = lower

symbol-lower : (n : List ℕ) → IsLowerName n → IsLowerSymbol (name_word n)
symbol-lower n lower =
    chosen-lower (bytes_eq n (codes "and")) (bytes_eq n (codes "not")) (bytes_eq n (codes "assign")) (bytes_eq n (codes "increase"))
    (bytes_eq n (codes "decrease")) (bytes_eq n (codes "scale-up")) (is_unsupported_name n) n lower

mark-lower : (at : ℕ) (w : lexer.Word) → IsLowerWord w → IsLowerMark (mark_at at w)
mark-lower at tokens.OpenParenthesis lower = tt
mark-lower at tokens.CloseParenthesis lower = tt
mark-lower at (tokens.Name n) lower = symbol-lower n lower
mark-lower at (tokens.Variable n) lower = tt
mark-lower at (tokens.Keyword n) lower = tt
mark-lower at (tokens.Number v) lower = tt
mark-lower at (tokens.SignedNumber v) lower = tt
mark-lower at (tokens.Operator o) lower = tt

marks-lower : (ts : List Token) → AllByRecursion IsLowerWord (token_words ts) → AllByRecursion IsLowerMark (marks_from ts)
marks-lower [] lower = tt
marks-lower (t ∷ ts) lower = (mark-lower t.from t.word lower.0, marks-lower ts lower.1)

-- ---- from marks to forms

all_parts : {X : Type 0} (P : X → Type 0) (xs ys : List X) → AllByRecursion P (xs ++ ys) → AllByRecursion P xs × AllByRecursion P ys
all_parts P [] ys all = (tt, all)
all_parts P (x ∷ xs) ys all = let k = all_parts P xs ys all.1 in ((all.0, k.0), k.1)

from_marks : (f : Forms) → AllByRecursion IsLowerMark (marks_of f) → AreLower f
from_marks none all = tt
from_marks (word at w rest) all = (all.0, from_marks rest all.1)
from_marks (list from inside to rest) all =
    let k = all_parts IsLowerMark (marks_of inside) (closing to ∷ marks_of rest) all.1 in
    (from_marks inside k.0, from_marks rest k.1.1)

-- the forms of a text
pub forms-lower : (text : List ℕ) (f : Forms) → HasMarks text (marks_of f) → AreLower f
forms-lower text f marks =
    from_marks f
    (subst (AllByRecursion IsLowerMark) marks.each
    (marks-lower marks.tokens (tokens-lower marks.are_tokens.words marks.tokens marks.are_tokens.each)))
