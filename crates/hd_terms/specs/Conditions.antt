-- How conditions are written.
-- "BNF" is the BNF of PDDL 2.1 (Fox and Long 2003, its appendix); "own" is a rule of this project.
use Rattle.std.specs.Prelude.{ℕ, List, [], ◌∷◌, ◌++◌}
use Rattle.hd_lex.specs.declared.token.Operator as signs
use Rattle.hd_lex.specs.declared.token.Operator.TheVariants as operators
use Rattle.hd_forms.specs.declared.word.FormWord.{FormWord}
use Rattle.hd_forms.specs.declared.word.FormWord.TheVariants.{And, Not, Operator}
use Rattle.hd_forms.specs.Forms.{Forms, none, word, list}
use Rattle.hd_terms.specs.declared.tree.Atom.{Atom}
use Rattle.hd_terms.specs.declared.tree.Condition.{Condition}
use Rattle.hd_terms.specs.declared.tree.Condition.TheVariants as conditions
use Rattle.hd_base.specs.declared.relation.Relation.{Relation}
use Rattle.hd_base.specs.declared.relation.Relation.TheVariants as relations
use Rattle.hd_terms.specs.declared.tree.Term.{Term}
use Rattle.hd_terms.specs.Atoms.{IsTerm, IsAtom}
use Rattle.hd_base.specs.Expression.{Expression}
use Rattle.hd_terms.specs.declared.tree.Leaf.{Leaf}
use Rattle.hd_terms.specs.Expressions.{AreExprs}

-- the operator of a comparison (BNF)
pub data IsRelation : signs.Operator → Relation → Type 0 where
  less : IsRelation operators.Less relations.Less
  less_or_equal : IsRelation operators.LessOrEqual relations.LessOrEqual
  equal : IsRelation operators.Equal relations.Equal
  greater_or_equal : IsRelation operators.GreaterOrEqual relations.GreaterOrEqual
  greater : IsRelation operators.Greater relations.Greater

-- what stands in an equality of objects: = term term (BNF)
pub data IsEquality : Forms → Term → Term → Type 0 where
  equality : {a b c : ℕ} {v w : FormWord} {t u : Term}
      → IsTerm b v t → IsTerm c w u
      → IsEquality (word a (Operator operators.Equal) (word b v (word c w none))) t u

-- two expressions compared
abbrev pub comparison_by : Relation → Expression Leaf → Expression Leaf → Condition
comparison_by r x y = conditions.Compare (record { relation = r; left = x; right = y })

-- what stands in a part of a condition (BNF)
pub data IsCondition : Forms → Condition → Type 0 where
  -- an atom
  atom : {inside : Forms} {t : Atom} → IsAtom inside t → IsCondition inside (conditions.Atom t)
  -- not ( atom )
  not_atom : {a c d : ℕ} {inside : Forms} {t : Atom}
      → IsAtom inside t
      → IsCondition (word a Not (list c inside d none)) (conditions.NotAtom t)
  -- an equality of objects
  equal : {inside : Forms} {t u : Term} → IsEquality inside t u → IsCondition inside (conditions.Equal t u)
  -- not ( equality of objects )
  not_equal : {a c d : ℕ} {inside : Forms} {t u : Term}
      → IsEquality inside t u
      → IsCondition (word a Not (list c inside d none)) (conditions.NotEqual t u)
  -- < expression expression, and the same with <=, =, >= and >
  compare : {a : ℕ} {o : signs.Operator} {r : Relation} {inside : Forms} {x y : Expression Leaf}
      → IsRelation o r → AreExprs inside (x ∷ (y ∷ []))
      → IsCondition (word a (Operator o) inside) (comparison_by r x y)

-- conditions one after the other, and all of their parts in order (BNF; that 'and' is opened is
-- own)
pub data AreConditions : Forms → List Condition → Type 0 where
  -- no more
  end : AreConditions none []
  -- ( ), and more
  nothing : {a b : ℕ} {rest : Forms} {cs : List Condition}
      → AreConditions rest cs
      → AreConditions (list a none b rest) cs
  -- ( and condition* ), and more
  all : {a b c : ℕ} {inside rest : Forms} {ds cs : List Condition}
      → AreConditions inside ds → AreConditions rest cs
      → AreConditions (list a (word c And inside) b rest) (ds ++ cs)
  -- ( part ), and more
  one : {a b : ℕ} {inside rest : Forms} {c : Condition} {cs : List Condition}
      → IsCondition inside c → AreConditions rest cs
      → AreConditions (list a inside b rest) (c ∷ cs)
