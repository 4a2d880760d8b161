-- How expressions are told apart: each is known by its first leaf and what stands after it,
-- operands first.
use Rattle.std.specs.Prelude.{◌≡◌, ◌⊎◌, List, [], ◌∷◌, ◌++◌, refl}
use Rattle.std.specs.Coded.{Coded, code_by, coded×, coded⊎, coded_list}
use Rattle.std.proofs.Common.{inl, inr, ap, ◌∙◌, append_assoc}
use base.Stored.{coded_unit}
use Rattle.hd_base.specs.declared.operation.Operation.{Operation}
use Rattle.hd_base.specs.contracts.operation.Operation as operations
use Rattle.hd_base.specs.Expression.{Expression, leaf, negate, binary}

-- a leaf, the sign before a negated expression, or what is done with two
abbrev Sign : Type 0 → Type 0
Sign L = L ⊎ (Unit {0} ⊎ Operation)

-- the leaf that is written first
abbrev first : {L : Type 0} → Expression L → L
first (leaf l) = l
first (negate x) = first x
first (binary o x y) = first x

-- the signs after it, operands first
abbrev others : {L : Type 0} → Expression L → List (Sign L)
others (leaf l) = []
others (negate x) = others x ++ inr (inl tt) ∷ []
others (binary o x y) = others x ++ (inl (first y) ∷ (others y ++ inr (inr o) ∷ []))

-- the expressions in hand after a sign
abbrev put : {L : Type 0} → Sign L → List (Expression L) → List (Expression L)
put (inl l) es = leaf l ∷ es
put (inr (inl u)) [] = []
put (inr (inl u)) (x ∷ es) = negate x ∷ es
put (inr (inr o)) [] = []
put (inr (inr o)) (y ∷ []) = []
put (inr (inr o)) (y ∷ (x ∷ es)) = binary o x y ∷ es

-- the expressions in hand after signs
abbrev put_all : {L : Type 0} → List (Sign L) → List (Expression L) → List (Expression L)
put_all [] es = es
put_all (s ∷ ss) es = put_all ss (put s es)

abbrev top : {L : Type 0} → L → List (Expression L) → Expression L
top l [] = leaf l
top l (e ∷ es) = e

-- the expression that a leaf and signs stand for
abbrev back : {L : Type 0} → L × List (Sign L) → Expression L
back p = top p.0 (put_all p.1 (leaf p.0 ∷ []))

put_back : {L : Type 0} (e : Expression L) (ss : List (Sign L)) (es : List (Expression L))
    → put_all (others e ++ ss) (leaf (first e) ∷ es) ≡ put_all ss (e ∷ es)
put_back (leaf l) ss es = refl
put_back (negate x) ss es =
    ap (λ (ts : List (Sign _)). put_all ts (leaf (first x) ∷ es)) (append_assoc (others x) (inr (inl tt) ∷ []) ss)
    ∙ put_back x (inr (inl tt) ∷ ss) es
put_back (binary o x y) ss es =
    ap (λ (ts : List (Sign _)). put_all ts (leaf (first x) ∷ es)) (append_assoc (others x) (inl (first y) ∷ (others y ++ inr (inr o) ∷ [])) ss)
    ∙ put_back x ((inl (first y) ∷ (others y ++ inr (inr o) ∷ [])) ++ ss) es
    ∙ ap (λ (ts : List (Sign _)). put_all ts (leaf (first y) ∷ (x ∷ es))) (append_assoc (others y) (inr (inr o) ∷ []) ss)
    ∙ put_back y (inr (inr o) ∷ ss) (x ∷ es)

pub given_back : {L : Type 0} (e : Expression L) → back (first e, others e) ≡ e
given_back (leaf l) = refl
given_back (negate x) = ap (top (first x)) (put_back x (inr (inl tt) ∷ []) [])
given_back (binary o x y) =
    ap (top (first x)) (put_back x (inl (first y) ∷ (others y ++ inr (inr o) ∷ [])) []
    ∙ put_back y (inr (inr o) ∷ []) (x ∷ []))

-- the code of an expression: its first leaf, then the signs after it, operands first
abbrev pub expression_code : {L : Type 0} → Coded L → Coded (Expression L)
expression_code c =
    code_by (_ × List (Sign _))
    (coded× c (coded_list (coded⊎ c (coded⊎ coded_unit operations.the_row.coded))))
    (λ e. (first e, others e)) back given_back
