-- Lists of names, or of variables, with types: names one or more, '-' and a type, any number of
-- times; then names without a type. "BNF" is the BNF of PDDL 2.1 (Fox and Long 2003, its appendix);
-- "own" is a rule of this project.
use Rattle.std.specs.Prelude.{ℕ, List, [], ◌∷◌, ◌++◌, map, Option, Some, None}
use Rattle.hd_lex.specs.declared.token.Operator.TheVariants.{Minus}
use Rattle.hd_forms.specs.declared.names.NameAt.{NameAt}
use Rattle.hd_forms.specs.declared.word.FormWord.{FormWord}
use Rattle.hd_forms.specs.declared.word.FormWord.TheVariants as words
use Rattle.hd_forms.specs.Forms.{Forms, none, word}
use Rattle.hd_forms.specs.Reading.{placed_name}
use Rattle.hd_terms.specs.declared.tree.Typed.{Typed}
use Rattle.hd_terms.specs.declared.typed.ItemKind.{ItemKind}
use Rattle.hd_terms.specs.declared.typed.ItemKind.TheVariants as kinds

-- the word is an item of such a list: a name, or a variable, as the list wants
pub data IsItem : ItemKind → FormWord → List ℕ → Type 0 where
  name : {n : List ℕ} → IsItem kinds.Name (words.Name n) n
  variable : {n : List ℕ} → IsItem kinds.Variable (words.Variable n) n

-- items one after the other, and more (BNF)
pub data AreItems (k : ItemKind) : Forms → List NameAt → Forms → Type 0 where
  end : {more : Forms} → AreItems k more [] more
  one : {at : ℕ} {w : FormWord} {n : List ℕ} {rest more : Forms} {ns : List NameAt}
      → IsItem k w n → AreItems k rest ns more
      → AreItems k (word at w rest) (placed_name n at ∷ ns) more

-- a name, with a type or without one
abbrev pub typed_by : Option NameAt → NameAt → Typed
typed_by of n = record { name = n; of = of }

-- each of the names with this type, or each without one
abbrev pub with_type : Option NameAt → List NameAt → List Typed
with_type of ns = map (typed_by of) ns

-- groups of items with a type, and then items without one (BNF)
pub data AreTyped (k : ItemKind) : Forms → List Typed → Type 0 where
  -- item*
  last : {f : Forms} {ns : List NameAt} → AreItems k f ns none → AreTyped k f (with_type None ns)
  -- item+ - NAME, and more
  group : {a b : ℕ} {t : List ℕ} {f rest : Forms} {n : NameAt} {ns : List NameAt} {ts : List Typed}
      → AreItems k f (n ∷ ns) (word a (words.Operator Minus) (word b (words.Name t) rest))
      → AreTyped k rest ts
      → AreTyped k f (with_type (Some (placed_name t b)) (n ∷ ns) ++ ts)
