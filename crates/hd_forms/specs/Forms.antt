-- Nested forms, the marks that they are written with, and where parentheses go wrong.
-- "BNF" is the BNF of PDDL 2.1 (Fox and Long 2003, its appendix); "own" is a rule of this project.
use Rattle.std.specs.Prelude.{◌≡◌, ℕ, zero, suc, ◌+◌, ◌==◌, List, [], ◌∷◌, ◌++◌, map, Option, Some, None, if◌then◌else◌}
use Rattle.hd_lex.specs.declared.token.Token.{Token}
use Rattle.hd_lex.specs.declared.token.Word as lexer
use Rattle.hd_lex.specs.declared.token.Word.TheVariants as tokens
use Rattle.hd_forms.specs.declared.error.ReadError.{ReadError}
use Rattle.hd_forms.specs.declared.error.ReadError.TheVariants as errors
use Rattle.hd_forms.specs.declared.forms.TheConstants.{MOST_OPEN}
use Rattle.hd_forms.specs.declared.word.FormWord.{FormWord}
use Rattle.hd_forms.specs.declared.word.FormWord.TheVariants as words
use Rattle.hd_forms.specs.Word.{name_word}

-- a parenthesis or another word, with the place of its first byte (own)
pub data Mark : Type 0 where
  opening : ℕ → Mark
  closing : ℕ → Mark
  symbol : ℕ → FormWord → Mark

-- the mark at this place of a word of the lexer (own)
abbrev pub mark_at : ℕ → lexer.Word → Mark
mark_at at tokens.OpenParenthesis = opening at
mark_at at tokens.CloseParenthesis = closing at
mark_at at (tokens.Name name) = symbol at (name_word name)
mark_at at (tokens.Variable name) = symbol at (words.Variable name)
mark_at at (tokens.Keyword name) = symbol at (words.Keyword name)
mark_at at (tokens.Number number) = symbol at (words.Number number)
mark_at at (tokens.SignedNumber number) = symbol at (words.Number number)
mark_at at (tokens.Operator operator) = symbol at (words.Operator operator)

-- the mark of a token (own)
abbrev pub mark_of : Token → Mark
mark_of token = mark_at token.from token.word

-- the marks of tokens, one each (own)
abbrev pub marks_from : List Token → List Mark
marks_from ts = map mark_of ts

-- forms, one after the other: a word at its place and what follows it; or a form in parentheses,
-- which stand at two places, with the forms in it and what follows it (own)
pub data Forms : Type 0 where
  none : Forms
  word : ℕ → FormWord → Forms → Forms
  list : ℕ → Forms → ℕ → Forms → Forms

-- how forms are written: a word as itself, a form as '(', the forms in it, and ')' (BNF)
abbrev pub marks_of : Forms → List Mark
marks_of none = []
marks_of (word at w rest) = symbol at w ∷ marks_of rest
marks_of (list from inside to rest) = opening from ∷ (marks_of inside ++ (closing to ∷ marks_of rest))

-- forms, and then more (own)
abbrev pub append : Forms → Forms → Forms
append none more = more
append (word at w rest) more = word at w (append rest more)
append (list from inside to rest) more = list from inside to (append rest more)

-- how many words and forms there are, at any depth (own)
abbrev pub size : Forms → ℕ
size none = 0
size (word at w rest) = 1 + size rest
size (list from inside to rest) = 1 + size inside + size rest

-- the first fault of the parentheses in these marks, where so many forms are open before them and
-- the text ends at this place: the end while a form is open, a '(' that would be one open form too
-- many, or a ')' if none is open (own)
abbrev pub fault_from : ℕ → ℕ → List Mark → Option ReadError
fault_from end zero [] = None
fault_from end (suc depth) [] = Some (errors.Unbalanced end)
fault_from end depth (symbol at w ∷ marks) = fault_from end depth marks
fault_from end depth (opening at ∷ marks) =
    if depth == MOST_OPEN then Some (errors.TooDeep at) else fault_from end (suc depth) marks
fault_from end zero (closing at ∷ marks) = Some (errors.Unbalanced at)
fault_from end (suc depth) (closing at ∷ marks) = fault_from end depth marks

-- the first fault of the parentheses of a text that ends at this place, if nothing is open at
-- first (own)
abbrev pub parenthesis_fault : ℕ → List Mark → Option ReadError
parenthesis_fault end marks = fault_from end 0 marks

-- the error is lack of memory, or it is this fault (own)
abbrev pub Tells : ReadError → Option ReadError → Type 0
Tells errors.NoMemory fault = Unit {0}
Tells (errors.Lex e) fault = ⊥
Tells (errors.Unbalanced at) fault = fault ≡ Some (errors.Unbalanced at)
Tells (errors.Unexpected at) fault = ⊥
Tells (errors.Unsupported w at) fault = ⊥
Tells (errors.TooDeep at) fault = fault ≡ Some (errors.TooDeep at)
