-- What is read of forms from the left, as functions (all own).
-- Public contracts of the crates above cite their grammars in the place of these.
use Rattle.std.specs.Prelude.{◌≡◌, ℕ, ℤ, List, Option, Some, None, if◌then◌else◌}
use Rattle.std.specs.Str.{bytes_eq}
use Rattle.hd_base.specs.Options.{◌>>=◌}
use Rattle.hd_forms.specs.declared.error.ReadError.{ReadError}
use Rattle.hd_forms.specs.declared.error.ReadError.TheVariants as errors
use Rattle.hd_forms.specs.declared.names.NameAt.{NameAt}
use Rattle.hd_forms.specs.declared.word.FormWord.{FormWord}
use Rattle.hd_forms.specs.declared.word.FormWord.TheVariants as words
use Rattle.hd_forms.specs.Forms.{Forms, none, word, list}

-- the errors of the grammar, and lack of memory
abbrev pub IsOfGrammar : ReadError → Type 0
IsOfGrammar errors.NoMemory = Unit {0}
IsOfGrammar (errors.Lex e) = ⊥
IsOfGrammar (errors.Unbalanced at) = ⊥
IsOfGrammar (errors.Unexpected at) = Unit {0}
IsOfGrammar (errors.Unsupported w at) = Unit {0}
IsOfGrammar (errors.TooDeep at) = ⊥

-- the error is one of the grammar, and nothing is read; or it is lack of memory
abbrev pub Refuses : {Y : Type 0} → ReadError → Option Y → Type 0
Refuses errors.NoMemory read = Unit {0}
Refuses (errors.Lex e) read = ⊥
Refuses (errors.Unbalanced at) read = ⊥
Refuses (errors.Unexpected at) read = read ≡ None
Refuses (errors.Unsupported w at) read = read ≡ None
Refuses (errors.TooDeep at) read = ⊥

-- ---- single words

-- the name of a word that is one
abbrev pub name_in : FormWord → Option (List ℕ)
name_in words.And = None
name_in words.Not = None
name_in (words.Change k) = None
name_in (words.Unsupported n) = None
name_in (words.Name n) = Some n
name_in (words.Keyword n) = None
name_in (words.Variable n) = None
name_in (words.Operator o) = None
name_in (words.Number v) = None

-- the name of a keyword
abbrev pub keyword_in : FormWord → Option (List ℕ)
keyword_in words.And = None
keyword_in words.Not = None
keyword_in (words.Change k) = None
keyword_in (words.Unsupported n) = None
keyword_in (words.Name n) = None
keyword_in (words.Keyword n) = Some n
keyword_in (words.Variable n) = None
keyword_in (words.Operator o) = None
keyword_in (words.Number v) = None

-- the name of a variable
abbrev pub variable_in : FormWord → Option (List ℕ)
variable_in words.And = None
variable_in words.Not = None
variable_in (words.Change k) = None
variable_in (words.Unsupported n) = None
variable_in (words.Name n) = None
variable_in (words.Keyword n) = None
variable_in (words.Variable n) = Some n
variable_in (words.Operator o) = None
variable_in (words.Number v) = None

-- the number that a word is
abbrev pub number_in : FormWord → Option ℤ
number_in words.And = None
number_in words.Not = None
number_in (words.Change k) = None
number_in (words.Unsupported n) = None
number_in (words.Name n) = None
number_in (words.Keyword n) = None
number_in (words.Variable n) = None
number_in (words.Operator o) = None
number_in (words.Number v) = Some v

-- ---- what stands first

-- a name and its place (own)
abbrev pub placed_name : List ℕ → ℕ → NameAt
placed_name name at = record { name = name; at = at }

-- a name, and what follows it
abbrev pub name_at : Forms → Option (NameAt × Forms)
name_at none = None
name_at (word at w rest) = name_in w >>= λ n. Some (placed_name n at, rest)
name_at (list a inside b rest) = None

-- a number, its place, and what follows it
abbrev pub number_at : Forms → Option (ℤ × ℕ × Forms)
number_at none = None
number_at (word at w rest) = number_in w >>= λ v. Some (v, at, rest)
number_at (list a inside b rest) = None

-- what stands in a form, and what follows it
abbrev pub group_at : Forms → Option (Forms × Forms)
group_at none = None
group_at (word at w rest) = None
group_at (list a inside b rest) = Some (inside, rest)

-- nothing
abbrev pub end_at : Forms → Option (Unit {0})
end_at none = Some tt
end_at (word at w rest) = None
end_at (list a inside b rest) = None

-- what follows this name
abbrev pub forms_behind_name : List ℕ → Forms → Option Forms
forms_behind_name text none = None
forms_behind_name text (word at w rest) = name_in w >>= λ n. if bytes_eq n text then Some rest else None
forms_behind_name text (list a inside b rest) = None

-- what follows this keyword
abbrev pub forms_behind_keyword : List ℕ → Forms → Option Forms
forms_behind_keyword text none = None
forms_behind_keyword text (word at w rest) = keyword_in w >>= λ n. if bytes_eq n text then Some rest else None
forms_behind_keyword text (list a inside b rest) = None
