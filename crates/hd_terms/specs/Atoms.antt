-- Atoms and fluents: a name and its terms.
-- "BNF" is the BNF of PDDL 2.1 (Fox and Long 2003, its appendix); "own" is a rule of this project.
use Rattle.std.specs.Prelude.{ℕ, List, [], ◌∷◌}
use Rattle.hd_forms.specs.declared.names.NameAt.{NameAt}
use Rattle.hd_forms.specs.declared.word.FormWord.{FormWord}
use Rattle.hd_forms.specs.declared.word.FormWord.TheVariants as words
use Rattle.hd_forms.specs.Forms.{Forms, none, word}
use Rattle.hd_forms.specs.Reading.{placed_name}
use Rattle.hd_terms.specs.declared.tree.Atom.{Atom}
use Rattle.hd_terms.specs.declared.tree.Term.{Term}
use Rattle.hd_terms.specs.declared.tree.Term.TheVariants as terms

-- the word at this place is a term: a name or a variable (BNF)
pub data IsTerm : ℕ → FormWord → Term → Type 0 where
  name : {at : ℕ} {n : List ℕ} → IsTerm at (words.Name n) (terms.Name (placed_name n at))
  variable : {at : ℕ} {n : List ℕ} → IsTerm at (words.Variable n) (terms.Variable (placed_name n at))

-- term* (BNF)
pub data AreTerms : Forms → List Term → Type 0 where
  end : AreTerms none []
  one : {at : ℕ} {w : FormWord} {rest : Forms} {t : Term} {ts : List Term}
      → IsTerm at w t → AreTerms rest ts
      → AreTerms (word at w rest) (t ∷ ts)

-- a name with terms
abbrev pub made_atom : NameAt → List Term → Atom
made_atom n ts = record { name = n; terms = ts }

-- what stands in an atom, or in a fluent: NAME term* (BNF)
pub data IsAtom : Forms → Atom → Type 0 where
  atom : {at : ℕ} {n : List ℕ} {rest : Forms} {ts : List Term}
      → AreTerms rest ts
      → IsAtom (word at (words.Name n) rest) (made_atom (placed_name n at) ts)
