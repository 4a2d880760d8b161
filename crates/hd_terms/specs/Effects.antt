-- How effects are written.
-- "BNF" is the BNF of PDDL 2.1 (Fox and Long 2003, its appendix); "own" is a rule of this project.
use Rattle.std.specs.Prelude.{ℕ, List, [], ◌∷◌, ◌++◌}
use Rattle.hd_forms.specs.declared.word.ChangeWord as changing
use Rattle.hd_forms.specs.declared.word.FormWord.TheVariants.{And, Not, Change}
use Rattle.hd_forms.specs.Forms.{Forms, none, word, list}
use Rattle.hd_terms.specs.declared.tree.Atom.{Atom}
use Rattle.hd_terms.specs.declared.tree.Effect.{Effect}
use Rattle.hd_terms.specs.declared.tree.Effect.TheVariants as effects
use Rattle.hd_terms.specs.Atoms.{IsAtom}
use Rattle.hd_base.specs.Expression.{Expression}
use Rattle.hd_terms.specs.declared.tree.Leaf.{Leaf}
use Rattle.hd_terms.specs.Expressions.{AreExprs}

-- the place of the first token of these forms
abbrev pub place_of : Forms → ℕ
place_of none = 0
place_of (word at w rest) = at
place_of (list from inside to rest) = from

-- a fluent changed by an amount, whose first token stands at this place
abbrev pub placed_change : changing.ChangeWord → Atom → Expression Leaf → ℕ → Effect
placed_change k f e at = effects.Change (record { change = k; fluent = f; amount = e; at = at })

-- what stands in a part of an effect (BNF)
pub data IsEffect : Forms → Effect → Type 0 where
  -- an atom
  add : {inside : Forms} {t : Atom} → IsAtom inside t → IsEffect inside (effects.Add t)
  -- not ( atom )
  delete : {a c d : ℕ} {inside : Forms} {t : Atom}
      → IsAtom inside t
      → IsEffect (word a Not (list c inside d none)) (effects.Delete t)
  -- assign, increase, decrease or scale-up, a fluent, and an expression
  change : {a c d : ℕ} {k : changing.ChangeWord} {inside amount : Forms} {f : Atom} {e : Expression Leaf}
      → IsAtom inside f → AreExprs amount (e ∷ [])
      → IsEffect (word a (Change k) (list c inside d amount)) (placed_change k f e (place_of amount))

-- effects one after the other, and all of their parts in order (BNF; that 'and' is opened is own)
pub data AreEffects : Forms → List Effect → Type 0 where
  -- no more
  end : AreEffects none []
  -- ( ), and more
  nothing : {a b : ℕ} {rest : Forms} {es : List Effect}
      → AreEffects rest es
      → AreEffects (list a none b rest) es
  -- ( and effect* ), and more
  all : {a b c : ℕ} {inside rest : Forms} {ds es : List Effect}
      → AreEffects inside ds → AreEffects rest es
      → AreEffects (list a (word c And inside) b rest) (ds ++ es)
  -- ( part ), and more
  one : {a b : ℕ} {inside rest : Forms} {e : Effect} {es : List Effect}
      → IsEffect inside e → AreEffects rest es
      → AreEffects (list a inside b rest) (e ∷ es)
