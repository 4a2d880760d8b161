-- The grammar of what domains and problems share.
-- "BNF" is the BNF of PDDL 2.1 (Fox and Long 2003, its appendix); "own" is a rule of this project.
use Rattle.std.specs.Prelude.{◌≡◌, ℕ, List, [], Bool, true, ◌||◌, codes}
use Rattle.std.specs.Str.{bytes_eq}
use Rattle.hd_forms.specs.declared.names.NameAt.{NameAt}
use Rattle.hd_forms.specs.declared.word.FormWord.TheVariants.{Name, Keyword}
use Rattle.hd_forms.specs.Forms.{Forms, none, word, list}
use Rattle.hd_forms.specs.Reading.{placed_name}

-- ( :KEYWORD .. ), and more: what stands after the keyword (BNF)
pub data IsSection (k : List ℕ) : Forms → Forms → Forms → Type 0 where
  section : {a b at : ℕ} {inside more : Forms}
      → IsSection k (list a (word at (Keyword k) inside) b more) inside more

-- [ ( :KEYWORD item* ) ], and more, by the rule of its items: where it is absent, there are none
-- (BNF)
pub data HasItems {A : Type 0} (Are : Forms → List A → Type 0) (k : List ℕ) : Forms → List A → Forms → Type 0 where
  absent : {more : Forms} → HasItems Are k more [] more
  present : {f inside more : Forms} {xs : List A} → IsSection k f inside more → Are inside xs → HasItems Are k f xs more

-- [ :KEYWORD ( .. ) ], and more, by the rule of the form: where it is absent, it says nothing (BNF)
pub data HasPart {A : Type 0} (Are : Forms → List A → Type 0) (k : List ℕ) : Forms → List A → Forms → Type 0 where
  absent : {more : Forms} → HasPart Are k more [] more
  present : {at a b : ℕ} {inside more : Forms} {xs : List A}
      → Are (list a inside b none) xs
      → HasPart Are k (word at (Keyword k) (list a inside b more)) xs more

-- the seven requirements that may be named (BNF; which of them is own)
abbrev pub is_requirement : List ℕ → Bool
is_requirement name =
    bytes_eq name (codes "strips") || bytes_eq name (codes "typing") || bytes_eq name (codes "negative-preconditions")
    || bytes_eq name (codes "equality") || bytes_eq name (codes "fluents") || bytes_eq name (codes "numeric-fluents")
    || bytes_eq name (codes "action-costs")

-- requirement* (own: they say nothing)
pub data AreRequirements : Forms → Type 0 where
  end : AreRequirements none
  one : {at : ℕ} {n : List ℕ} {rest : Forms}
      → is_requirement n ≡ true → AreRequirements rest
      → AreRequirements (word at (Keyword n) rest)

-- [ ( :requirements requirement* ) ], and more (BNF)
pub data SkipsRequirements : Forms → Forms → Type 0 where
  absent : {more : Forms} → SkipsRequirements more more
  present : {f inside more : Forms}
      → IsSection (codes "requirements") f inside more → AreRequirements inside
      → SkipsRequirements f more

-- ( define ( KIND NAME ) .. ), alone: its name, and the forms after its head (BNF)
pub data IsDefinition : List ℕ → Forms → NameAt → Forms → Type 0 where
  define : {kind : List ℕ} {a b c d e f at : ℕ} {n : List ℕ} {sections : Forms}
      → IsDefinition kind
      (list a (word b (Name (codes "define")) (list c (word d (Name kind) (word at (Name n) none)) e sections)) f none)
      (placed_name n at) sections
