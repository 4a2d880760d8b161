-- What the functions of this crate give, as functions (all own).
-- Public contracts of the crate above cite its grammar in the place of these.
use Rattle.std.specs.Prelude.{ℕ, List, [], ◌∷◌, ◌++◌, length, Option, Some, None, Bool, true, false, ◌==◌, ◌&&◌, not, if◌then◌else◌}
use Rattle.hd_lex.specs.declared.token.Operator as signs
use Rattle.hd_lex.specs.declared.token.Operator.TheVariants as operators
use Rattle.hd_forms.specs.declared.names.NameAt.{NameAt}
use Rattle.hd_forms.specs.declared.word.ChangeWord as changing
use Rattle.hd_forms.specs.declared.word.FormWord.{FormWord}
use Rattle.hd_forms.specs.declared.word.FormWord.TheVariants as words
use Rattle.hd_forms.specs.declared.word.FormWord.TheVariants.{And, Not, Change, Operator}
use Rattle.hd_forms.specs.Forms.{Forms, none, word, list}
use Rattle.hd_base.specs.Options.{◌>>=◌}
use Rattle.hd_forms.specs.Reading.{placed_name, name_in, variable_in, number_in, name_at, group_at, end_at}
use Rattle.hd_terms.specs.declared.tree.Atom.{Atom}
use Rattle.hd_terms.specs.declared.tree.Condition.{Condition}
use Rattle.hd_terms.specs.declared.tree.Condition.TheVariants as conditions
use Rattle.hd_terms.specs.declared.tree.Effect.{Effect}
use Rattle.hd_terms.specs.declared.tree.Effect.TheVariants as effects
use Rattle.hd_base.specs.declared.operation.Operation.TheVariants.{Add, Subtract, Multiply}
use Rattle.hd_base.specs.declared.relation.Relation.{Relation}
use Rattle.hd_base.specs.declared.relation.Relation.TheVariants as relations
use Rattle.hd_terms.specs.declared.tree.Term.{Term}
use Rattle.hd_terms.specs.declared.tree.Term.TheVariants as terms
use Rattle.hd_terms.specs.declared.tree.Typed.{Typed}
use Rattle.hd_terms.specs.declared.typed.ItemKind.{ItemKind}
use Rattle.hd_terms.specs.declared.typed.ItemKind.TheVariants as kinds
use Rattle.hd_terms.specs.Atoms.{made_atom}
use Rattle.hd_terms.specs.Conditions.{comparison_by}
use Rattle.hd_terms.specs.Effects.{place_of, placed_change}
use Rattle.hd_base.specs.Expression.{Expression, leaf, negate, binary}
use Rattle.hd_terms.specs.declared.tree.Leaf.{Leaf}
use Rattle.hd_terms.specs.declared.tree.Leaf.TheVariants as leaves
use Rattle.hd_terms.specs.Typed.{with_type}

-- ---- typed lists

-- the item that a word is
abbrev pub item_in : ItemKind → FormWord → Option (List ℕ)
item_in kinds.Name w = name_in w
item_in kinds.Variable w = variable_in w

-- the sign that a word is
abbrev pub sign_in : FormWord → Option signs.Operator
sign_in words.And = None
sign_in words.Not = None
sign_in (words.Change k) = None
sign_in (words.Unsupported n) = None
sign_in (words.Name n) = None
sign_in (words.Keyword n) = None
sign_in (words.Variable n) = None
sign_in (words.Operator o) = Some o
sign_in (words.Number v) = None

-- an operator, if there is one, is `-`
abbrev pub is_minus_sign : Option signs.Operator → Bool
is_minus_sign None = false
is_minus_sign (Some operators.Plus) = false
is_minus_sign (Some operators.Minus) = true
is_minus_sign (Some operators.Times) = false
is_minus_sign (Some operators.Divide) = false
is_minus_sign (Some operators.Less) = false
is_minus_sign (Some operators.LessOrEqual) = false
is_minus_sign (Some operators.Equal) = false
is_minus_sign (Some operators.GreaterOrEqual) = false
is_minus_sign (Some operators.Greater) = false

-- the word `-`
abbrev pub is_minus_term : FormWord → Bool
is_minus_term w = is_minus_sign (sign_in w)

-- an item at a place before others, or none of them where it is no item
abbrev pub items_from : Option (List ℕ) → ℕ → List NameAt → List NameAt
items_from (Some n) at more = placed_name n at ∷ more
items_from None at more = []

-- what follows the items after an item, or the forms themselves where they begin with none
abbrev pub rest_from : Option (List ℕ) → Forms → Forms → Forms
rest_from (Some n) here behind = behind
rest_from None here behind = here

-- what follows a value, or else this
abbrev pub some_or : {A B : Type 0} → Option A → (A → Option B) → Option B → Option B
some_or (Some x) f otherwise = f x
some_or None f otherwise = otherwise

-- the items that stand in front, each with its place
unfoldable pub items_read : ItemKind → Forms → List NameAt
items_read k none = []
items_read k (word at w rest) = items_from (item_in k w) at (items_read k rest)
items_read k (list a inside b rest) = []

-- what follows them
unfoldable pub behind_items : ItemKind → Forms → Forms
behind_items k none = none
behind_items k (word at w rest) = rest_from (item_in k w) (word at w rest) (behind_items k rest)
behind_items k (list a inside b rest) = list a inside b rest

-- the type of items that are followed so, if one is given, and what follows it; whether there are
-- items is reported
unfoldable pub type_behind : Bool → Forms → Option (Option NameAt × Forms)
type_behind some none = Some (None, none)
type_behind some (word at w rest) =
    if is_minus_term w && some then (name_at rest >>= λ n. Some (Some n.0, n.1)) else None
type_behind some (list a inside b rest) = None

unfoldable mutual
  -- a typed list: what was found so far, the items whose type is still to come, and what follows
  pub typed_after : ItemKind → Forms → List Typed → List NameAt → Option (List Typed)
  typed_after k none found pending = Some (found ++ with_type None pending)
  typed_after k (word at w rest) found pending =
      some_or (item_in k w) (λ n. typed_after k rest found (pending ++ placed_name n at ∷ []))
      (if is_minus_term w && not (length pending == 0) then typed_behind k rest found pending else None)
  typed_after k (list a inside b rest) found pending = None

  -- the type of the items, and what follows
  pub typed_behind : ItemKind → Forms → List Typed → List NameAt → Option (List Typed)
  typed_behind k none found pending = None
  typed_behind k (word at w rest) found pending =
      name_in w >>= λ t. typed_after k rest (found ++ with_type (Some (placed_name t at)) pending) []
  typed_behind k (list a inside b rest) found pending = None

-- ---- atoms

-- the term that a word at this place is
abbrev pub term_in : ℕ → FormWord → Option Term
term_in at words.And = None
term_in at words.Not = None
term_in at (words.Change k) = None
term_in at (words.Unsupported n) = None
term_in at (words.Name n) = Some (terms.Name (placed_name n at))
term_in at (words.Keyword n) = None
term_in at (words.Variable n) = Some (terms.Variable (placed_name n at))
term_in at (words.Operator o) = None
term_in at (words.Number v) = None

-- a term, and what follows it
abbrev pub term_at : Forms → Option (Term × Forms)
term_at none = None
term_at (word at w rest) = term_in at w >>= λ t. Some (t, rest)
term_at (list a inside b rest) = None

-- terms, one after the other: those found so far, and theirs
unfoldable pub terms_after : Forms → List Term → Option (List Term)
terms_after none found = Some found
terms_after (word at w rest) found = term_in at w >>= λ t. terms_after rest (found ++ t ∷ [])
terms_after (list a inside b rest) found = None

-- a name and its terms, and nothing else
unfoldable pub atom_of : Forms → Option Atom
atom_of inside = do
  n ← name_at inside
  ts ← terms_after n.1 []
  Some (made_atom n.0 ts)

-- the atom after `not`
unfoldable pub negated_atom_of : Forms → Option Atom
negated_atom_of rest = do
  g ← group_at rest
  t ← atom_of g.0
  _ ← end_at g.1
  Some t

-- ---- expressions

-- two expressions and no more
abbrev pub pair_in : List (Expression Leaf) → Option (Expression Leaf × Expression Leaf)
pair_in [] = None
pair_in (x ∷ []) = None
pair_in (x ∷ (y ∷ [])) = Some (x, y)
pair_in (x ∷ (y ∷ (z ∷ es))) = None

-- one expression and no more
abbrev pub one_in : List (Expression Leaf) → Option (Expression Leaf)
one_in [] = None
one_in (x ∷ []) = Some x
one_in (x ∷ (y ∷ es)) = None

-- the difference of two, or one with its sign turned
abbrev pub minus_by : List (Expression Leaf) → Option (Expression Leaf)
minus_by [] = None
minus_by (x ∷ []) = Some (negate x)
minus_by (x ∷ (y ∷ [])) = Some (binary Subtract x y)
minus_by (x ∷ (y ∷ (z ∷ es))) = None

-- what an operator makes of expressions
abbrev pub operation_by : signs.Operator → List (Expression Leaf) → Option (Expression Leaf)
operation_by operators.Plus es = pair_in es >>= λ p. Some (binary Add p.0 p.1)
operation_by operators.Minus es = minus_by es
operation_by operators.Times es = pair_in es >>= λ p. Some (binary Multiply p.0 p.1)
operation_by operators.Divide es = None
operation_by operators.Less es = None
operation_by operators.LessOrEqual es = None
operation_by operators.Equal es = None
operation_by operators.GreaterOrEqual es = None
operation_by operators.Greater es = None

-- the operators of expressions
abbrev pub is_arithmetic : signs.Operator → Bool
is_arithmetic operators.Plus = true
is_arithmetic operators.Minus = true
is_arithmetic operators.Times = true
is_arithmetic operators.Divide = false
is_arithmetic operators.Less = false
is_arithmetic operators.LessOrEqual = false
is_arithmetic operators.Equal = false
is_arithmetic operators.GreaterOrEqual = false
is_arithmetic operators.Greater = false

unfoldable mutual
  -- expressions one after the other, not more than so many: those found so far, and theirs
  pub exprs_after : ℕ → Forms → List (Expression Leaf) → Option (List (Expression Leaf))
  exprs_after most none found = Some found
  exprs_after most (word at w rest) found =
      if length found == most then None else (number_in w >>= λ v. exprs_after most rest (found ++ leaf (leaves.Number at v) ∷ []))
  exprs_after most (list a inside b rest) found =
      if length found == most then None else (expr_in inside >>= λ e. exprs_after most rest (found ++ e ∷ []))

  -- what stands in one expression
  pub expr_in : Forms → Option (Expression Leaf)
  expr_in (word at (Operator o) inside) =
      if is_arithmetic o then (exprs_after 2 inside [] >>= λ es. operation_by o es) else None
  expr_in inside = atom_of inside >>= λ t. Some (leaf (leaves.Fluent t))

-- two expressions
unfoldable pub pair_of : Forms → Option (Expression Leaf × Expression Leaf)
pair_of rest = exprs_after 2 rest [] >>= λ es. pair_in es

-- one expression
unfoldable pub expression_of : Forms → Option (Expression Leaf)
expression_of rest = exprs_after 1 rest [] >>= λ es. one_in es

-- ---- conditions

-- the relation that an operator stands for
abbrev pub relation_in : signs.Operator → Option Relation
relation_in operators.Plus = None
relation_in operators.Minus = None
relation_in operators.Times = None
relation_in operators.Divide = None
relation_in operators.Less = Some relations.Less
relation_in operators.LessOrEqual = Some relations.LessOrEqual
relation_in operators.Equal = Some relations.Equal
relation_in operators.GreaterOrEqual = Some relations.GreaterOrEqual
relation_in operators.Greater = Some relations.Greater

-- two terms, alone
unfoldable pub terms_of : Forms → Option (Term × Term)
terms_of rest = do
  t ← term_at rest
  u ← term_at t.1
  _ ← end_at u.1
  Some (t.0, u.0)

-- a term stands first
abbrev pub begins_with_term : Forms → Bool
begins_with_term none = false
begins_with_term (word at words.And rest) = false
begins_with_term (word at words.Not rest) = false
begins_with_term (word at (words.Change k) rest) = false
begins_with_term (word at (words.Unsupported n) rest) = false
begins_with_term (word at (words.Name n) rest) = true
begins_with_term (word at (words.Keyword n) rest) = false
begins_with_term (word at (words.Variable n) rest) = true
begins_with_term (word at (words.Operator o) rest) = false
begins_with_term (word at (words.Number v) rest) = false
begins_with_term (list a inside b rest) = false

-- the operator is `=`
abbrev pub is_equal : signs.Operator → Bool
is_equal operators.Plus = false
is_equal operators.Minus = false
is_equal operators.Times = false
is_equal operators.Divide = false
is_equal operators.Less = false
is_equal operators.LessOrEqual = false
is_equal operators.Equal = true
is_equal operators.GreaterOrEqual = false
is_equal operators.Greater = false

-- what an operator says of what follows it
unfoldable pub relation_of : signs.Operator → Forms → Option Condition
relation_of o rest =
    if is_equal o && begins_with_term rest then (terms_of rest >>= λ p. Some (conditions.Equal p.0 p.1))
    else (relation_in o >>= λ r. pair_of rest >>= λ p. Some (comparison_by r p.0 p.1))

-- what is denied in a form
unfoldable pub denial_of : Forms → Option Condition
denial_of (word at (Operator o) rest) =
    if is_equal o && begins_with_term rest then (terms_of rest >>= λ p. Some (conditions.NotEqual p.0 p.1)) else None
denial_of inside = atom_of inside >>= λ t. Some (conditions.NotAtom t)

-- the condition after `not`
unfoldable pub negated_condition : Forms → Option Condition
negated_condition rest = do
  g ← group_at rest
  c ← denial_of g.0
  _ ← end_at g.1
  Some c

-- what stands in a part of a condition
unfoldable pub part_of_condition : Forms → Option Condition
part_of_condition (word at Not rest) = negated_condition rest
part_of_condition (word at (Operator o) rest) = relation_of o rest
part_of_condition inside = atom_of inside >>= λ t. Some (conditions.Atom t)

unfoldable mutual
  -- conditions one after the other: the parts found so far, and theirs
  pub conditions_after : Forms → List Condition → Option (List Condition)
  conditions_after none found = Some found
  conditions_after (word at w rest) found = None
  conditions_after (list a inside b rest) found = condition_after inside found >>= λ more. conditions_after rest more

  -- what stands in one condition
  pub condition_after : Forms → List Condition → Option (List Condition)
  condition_after none found = Some found
  condition_after (word at And inside) found = conditions_after inside found
  condition_after inside found = part_of_condition inside >>= λ c. Some (found ++ c ∷ [])

-- one condition, and what follows it
unfoldable pub condition_at : Forms → Option (List Condition × Forms)
condition_at none = None
condition_at (word at w rest) = None
condition_at (list a inside b rest) = conditions_after (list a inside b none) [] >>= λ cs. Some (cs, rest)

-- ---- effects

-- a fluent, and an amount
unfoldable pub change_of : changing.ChangeWord → Forms → Option Effect
change_of k rest = do
  g ← group_at rest
  f ← atom_of g.0
  e ← expression_of g.1
  Some (placed_change k f e (place_of g.1))

-- what stands in a part of an effect
unfoldable pub part_of_effect : Forms → Option Effect
part_of_effect (word at Not rest) = negated_atom_of rest >>= λ t. Some (effects.Delete t)
part_of_effect (word at (Change k) rest) = change_of k rest
part_of_effect inside = atom_of inside >>= λ t. Some (effects.Add t)

unfoldable mutual
  -- effects one after the other: the parts found so far, and theirs
  pub effects_after : Forms → List Effect → Option (List Effect)
  effects_after none found = Some found
  effects_after (word at w rest) found = None
  effects_after (list a inside b rest) found = effect_after inside found >>= λ more. effects_after rest more

  -- what stands in one effect
  pub effect_after : Forms → List Effect → Option (List Effect)
  effect_after none found = Some found
  effect_after (word at And inside) found = effects_after inside found
  effect_after inside found = part_of_effect inside >>= λ e. Some (found ++ e ∷ [])

-- one effect, and what follows it
unfoldable pub effect_at : Forms → Option (List Effect × Forms)
effect_at none = None
effect_at (word at w rest) = None
effect_at (list a inside b rest) = effects_after (list a inside b none) [] >>= λ es. Some (es, rest)
