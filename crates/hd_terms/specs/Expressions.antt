-- How expressions are written.
-- "BNF" is the BNF of PDDL 2.1 (Fox and Long 2003, its appendix); "own" is a rule of this project.
use Rattle.std.specs.Prelude.{ℕ, ℤ, List, [], ◌∷◌}
use Rattle.hd_lex.specs.declared.token.Operator.TheVariants.{Plus, Minus, Times}
use Rattle.hd_forms.specs.declared.word.FormWord.TheVariants.{Number, Operator}
use Rattle.hd_forms.specs.Forms.{Forms, none, word, list}
use Rattle.hd_terms.specs.declared.tree.Atom.{Atom}
use Rattle.hd_base.specs.declared.operation.Operation.TheVariants.{Add, Subtract, Multiply}
use Rattle.hd_terms.specs.Atoms.{IsAtom}
use Rattle.hd_base.specs.Expression.{Expression, leaf, negate, binary}
use Rattle.hd_terms.specs.declared.tree.Leaf.{Leaf}
use Rattle.hd_terms.specs.declared.tree.Leaf.TheVariants as leaves

-- expressions one after the other (BNF, without division)
pub data AreExprs : Forms → List (Expression Leaf) → Type 0 where
  -- no more
  end : AreExprs none []
  -- NUMBER, and more
  numeral : {at : ℕ} {v : ℤ} {rest : Forms} {es : List (Expression Leaf)}
      → AreExprs rest es
      → AreExprs (word at (Number v) rest) (leaf (leaves.Number at v) ∷ es)
  -- ( NAME term* ), and more
  value : {a b : ℕ} {inside rest : Forms} {f : Atom} {es : List (Expression Leaf)}
      → IsAtom inside f → AreExprs rest es
      → AreExprs (list a inside b rest) (leaf (leaves.Fluent f) ∷ es)
  -- ( + expression expression ), and more
  sum : {a b c : ℕ} {inside rest : Forms} {x y : Expression Leaf} {es : List (Expression Leaf)}
      → AreExprs inside (x ∷ (y ∷ [])) → AreExprs rest es
      → AreExprs (list a (word c (Operator Plus) inside) b rest) (binary Add x y ∷ es)
  -- ( - expression expression ), and more
  difference : {a b c : ℕ} {inside rest : Forms} {x y : Expression Leaf} {es : List (Expression Leaf)}
      → AreExprs inside (x ∷ (y ∷ [])) → AreExprs rest es
      → AreExprs (list a (word c (Operator Minus) inside) b rest) (binary Subtract x y ∷ es)
  -- ( * expression expression ), and more
  product : {a b c : ℕ} {inside rest : Forms} {x y : Expression Leaf} {es : List (Expression Leaf)}
      → AreExprs inside (x ∷ (y ∷ [])) → AreExprs rest es
      → AreExprs (list a (word c (Operator Times) inside) b rest) (binary Multiply x y ∷ es)
  -- ( - expression ), and more
  negated : {a b c : ℕ} {inside rest : Forms} {x : Expression Leaf} {es : List (Expression Leaf)}
      → AreExprs inside (x ∷ []) → AreExprs rest es
      → AreExprs (list a (word c (Operator Minus) inside) b rest) (negate x ∷ es)
