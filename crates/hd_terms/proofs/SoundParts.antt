-- The atoms and expressions that are read are in the grammar.
use Rattle.std.proofs.Common.{◌≡◌, ℕ, ◌==◌, length, List, [], ◌∷◌, ◌++◌, Some, sym, subst, ◌∙◌, append_assoc}
use Rattle.std.proofs.lemmas.List.{append-nil}
use Rattle.std.proofs.lemmas.Option.{same_Some}
use Rattle.hd_base.proofs.Options.{cond_then_some, cond_else_some}
use Rattle.hd_lex.specs.declared.token.Operator as signs
use Rattle.hd_lex.specs.declared.token.Operator.TheVariants as operators
use Rattle.hd_forms.specs.declared.word.FormWord.{FormWord}
use Rattle.hd_forms.specs.declared.word.FormWord.TheVariants as words
use Rattle.hd_forms.specs.Forms.{Forms, none, word, list}
use Rattle.hd_base.specs.Options.{◌>>=◌}
use Rattle.hd_forms.specs.Reading.{number_in, name_at}
use Rattle.hd_forms.proofs.Inverting.{bind_some, name_at-some, number_in-some}
use Rattle.hd_terms.specs.declared.tree.Atom.{Atom}
use Rattle.hd_terms.specs.declared.tree.Term.{Term}
use Rattle.hd_terms.specs.Atoms as a
use Rattle.hd_terms.specs.Atoms.{IsTerm, AreTerms, IsAtom, made_atom}
use Rattle.hd_base.specs.Expression.{Expression, leaf, negate, binary}
use Rattle.hd_terms.specs.declared.tree.Leaf.{Leaf}
use Rattle.hd_terms.specs.declared.tree.Leaf.TheVariants as leaves
use Rattle.hd_terms.specs.Expressions as x
use Rattle.hd_terms.specs.Expressions.{AreExprs}
use Rattle.hd_terms.specs.Reading.{term_in, terms_after, atom_of, is_arithmetic, one_in, pair_in, minus_by, operation_by, exprs_after, expr_in, expression_of, pair_of}

-- ---- atoms

pub IsTerm-term_in : (at : ℕ) (w : FormWord) (t : Term) → term_in at w ≡ Some t → IsTerm at w t
IsTerm-term_in at (words.Name n) t e = subst (IsTerm at (words.Name n)) (same_Some _ t e) a.name
IsTerm-term_in at (words.Variable n) t e = subst (IsTerm at (words.Variable n)) (same_Some _ t e) a.variable
IsTerm-term_in at w t e = absurd cc

AreTerms-terms_after : (f : Forms) (found ts : List Term) → terms_after f found ≡ Some ts
    → (ms : List Term) × AreTerms f ms × (ts ≡ found ++ ms)
unfolding terms_after
AreTerms-terms_after none found ts e = ([], a.end, sym (same_Some found ts e) ∙ sym (append-nil found))
AreTerms-terms_after (word at w rest) found ts e =
    let s = bind_some (term_in at w) (λ t. terms_after rest (found ++ t ∷ [])) ts e in
    let q = AreTerms-terms_after rest (found ++ s.0 ∷ []) ts s.2 in
    (s.0 ∷ q.0, a.one (IsTerm-term_in at w s.0 s.1) q.1, q.2 ∙ append_assoc found (s.0 ∷ []) q.0)
AreTerms-terms_after (list from inside to rest) found ts e = absurd cc

pub IsAtom-atom_of : (f : Forms) (t : Atom) → atom_of f ≡ Some t → IsAtom f t
unfolding atom_of
IsAtom-atom_of f t e =
    let s = bind_some (name_at f) (λ n. terms_after n.1 [] >>= λ ts. Some (made_atom n.0 ts)) t e in
    let u = bind_some (terms_after s.0.1 []) (λ ts. Some (made_atom s.0.0 ts)) t s.2 in
    let q = AreTerms-terms_after s.0.1 [] u.0 u.1 in
    let are : AreTerms s.0.1 u.0 = subst (AreTerms s.0.1) (sym q.2) q.1 in
    let made : IsAtom (word s.0.0.at (words.Name s.0.0.name) s.0.1) (made_atom s.0.0 u.0) = a.atom are in
    subst (IsAtom f) (same_Some (made_atom s.0.0 u.0) t u.2)
    (subst (λ (y : Forms). IsAtom y (made_atom s.0.0 u.0)) (sym (name_at-some f s.0 s.1)) made)

-- ---- expressions

-- one more expression before the others
abbrev Says : Forms → Expression Leaf → Type 0
Says inside e =
    (from to : ℕ) (rest : Forms) (es : List (Expression Leaf)) → AreExprs rest es → AreExprs (list from inside to rest) (e ∷ es)

AreExprs-minus_by : (at : ℕ) (inside : Forms) (es : List (Expression Leaf)) (e : Expression Leaf)
    → AreExprs inside es → minus_by es ≡ Some e → Says (word at (words.Operator operators.Minus) inside) e
AreExprs-minus_by at inside [] e are is = absurd cc
AreExprs-minus_by at inside (y ∷ []) e are is =
    subst (Says (word at (words.Operator operators.Minus) inside)) (same_Some (negate y) e is) (λ from to rest es r. x.negated are r)
AreExprs-minus_by at inside (y ∷ (z ∷ [])) e are is =
    subst (Says (word at (words.Operator operators.Minus) inside)) (same_Some _ e is) (λ from to rest es r. x.difference are r)
AreExprs-minus_by at inside (y ∷ (z ∷ (v ∷ vs))) e are is = absurd cc

-- two expressions and no more
pub AreExprs-pair_in : (f : Forms) (es : List (Expression Leaf)) (p : Expression Leaf × Expression Leaf) → AreExprs f es → pair_in es ≡ Some p
    → AreExprs f (p.0 ∷ (p.1 ∷ []))
AreExprs-pair_in f [] p are is = absurd cc
AreExprs-pair_in f (y ∷ []) p are is = absurd cc
AreExprs-pair_in f (y ∷ (z ∷ [])) p are is =
    subst (λ (q : Expression Leaf × Expression Leaf). AreExprs f (q.0 ∷ (q.1 ∷ []))) (same_Some (y, z) p is) are
AreExprs-pair_in f (y ∷ (z ∷ (v ∷ vs))) p are is = absurd cc

AreExprs-one_in : (f : Forms) (es : List (Expression Leaf)) (e : Expression Leaf) → AreExprs f es → one_in es ≡ Some e → AreExprs f (e ∷ [])
AreExprs-one_in f [] e are is = absurd cc
AreExprs-one_in f (y ∷ []) e are is = subst (λ (z : Expression Leaf). AreExprs f (z ∷ [])) (same_Some y e is) are
AreExprs-one_in f (y ∷ (z ∷ vs)) e are is = absurd cc

AreExprs-operation_by : (o : signs.Operator) (at : ℕ) (inside : Forms) (es : List (Expression Leaf)) (e : Expression Leaf)
    → AreExprs inside es → operation_by o es ≡ Some e → Says (word at (words.Operator o) inside) e
AreExprs-operation_by operators.Plus at inside es e are is =
    let s = bind_some (pair_in es) (λ p. Some (binary _ p.0 p.1)) e is in
    subst (Says (word at (words.Operator operators.Plus) inside)) (same_Some _ e s.2)
    (λ from to rest ds r. x.sum (AreExprs-pair_in inside es s.0 are s.1) r)
AreExprs-operation_by operators.Times at inside es e are is =
    let s = bind_some (pair_in es) (λ p. Some (binary _ p.0 p.1)) e is in
    subst (Says (word at (words.Operator operators.Times) inside)) (same_Some _ e s.2)
    (λ from to rest ds r. x.product (AreExprs-pair_in inside es s.0 are s.1) r)
AreExprs-operation_by operators.Minus at inside es e are is = AreExprs-minus_by at inside es e are is
AreExprs-operation_by o at inside es e are is = absurd cc

AreExprs-fluent : (f : Forms) (e : Expression Leaf) → (atom_of f >>= λ t. Some (leaf (leaves.Fluent t))) ≡ Some e → Says f e
AreExprs-fluent f e h =
    let s = bind_some (atom_of f) (λ t. Some (leaf (leaves.Fluent t))) e h in
    subst (Says f) (same_Some (leaf (leaves.Fluent s.0)) e s.2) (λ from to rest es r. x.value (IsAtom-atom_of f s.0 s.1) r)

record ReadsExprs (f : Forms) (found es : List (Expression Leaf)) : Type 0 where
  own : List (Expression Leaf)
  are : AreExprs f own
  all : es ≡ found ++ own

mutual
  unfolding exprs_after

  ReadsExprs-exprs_after : (most : ℕ) (f : Forms) (found es : List (Expression Leaf)) → exprs_after most f found ≡ Some es → ReadsExprs f found es
  ReadsExprs-exprs_after most none found es e =
      record { own = []; are = x.end; all = sym (same_Some found es e) ∙ sym (append-nil found) }
  ReadsExprs-exprs_after most (word at w rest) found es e =
      let t =
      (cond_else_some (length found == most) (number_in w >>= λ v. exprs_after most rest (found ++ leaf (leaves.Number at v) ∷ [])) es e).1 in
      let s = bind_some (number_in w) (λ v. exprs_after most rest (found ++ leaf (leaves.Number at v) ∷ [])) es t in
      let q = ReadsExprs-exprs_after most rest (found ++ leaf (leaves.Number at s.0) ∷ []) es s.2 in
      record {
        own = leaf (leaves.Number at s.0) ∷ q.own;
        are =
            subst (λ (v : FormWord). AreExprs (word at v rest) (leaf (leaves.Number at s.0) ∷ q.own)) (sym (number_in-some w s.0 s.1))
            (x.numeral q.are);
        all = q.all ∙ append_assoc found (leaf (leaves.Number at s.0) ∷ []) q.own;
      }
  ReadsExprs-exprs_after most (list from inside to rest) found es e =
      let t =
      (cond_else_some (length found == most) (expr_in inside >>= λ y. exprs_after most rest (found ++ y ∷ [])) es e).1 in
      let s = bind_some (expr_in inside) (λ y. exprs_after most rest (found ++ y ∷ [])) es t in
      let q = ReadsExprs-exprs_after most rest (found ++ s.0 ∷ []) es s.2 in
      record {
        own = s.0 ∷ q.own;
        are = AreExprs-expr_in inside s.0 s.1 from to rest q.own q.are;
        all = q.all ∙ append_assoc found (s.0 ∷ []) q.own;
      }

  AreExprs-expr_in : (inside : Forms) (e : Expression Leaf) → expr_in inside ≡ Some e → Says inside e
  AreExprs-expr_in (word at (words.Operator o) inside) e h =
      let t = cond_then_some (is_arithmetic o) (exprs_after 2 inside [] >>= λ es. operation_by o es) e h in
      let s = bind_some (exprs_after 2 inside []) (λ es. operation_by o es) e t.1 in
      let q = ReadsExprs-exprs_after 2 inside [] s.0 s.1 in
      AreExprs-operation_by o at inside s.0 e (subst (AreExprs inside) (sym q.all) q.are) s.2
  AreExprs-expr_in f e h = AreExprs-fluent f e h

pub AreExprs-pair_of : (f : Forms) (p : Expression Leaf × Expression Leaf) → pair_of f ≡ Some p → AreExprs f (p.0 ∷ (p.1 ∷ []))
unfolding pair_of
AreExprs-pair_of f p e =
    let s = bind_some (exprs_after 2 f []) (λ es. pair_in es) p e in
    let q = ReadsExprs-exprs_after 2 f [] s.0 s.1 in
    AreExprs-pair_in f s.0 p (subst (AreExprs f) (sym q.all) q.are) s.2

pub AreExprs-expression_of : (f : Forms) (e : Expression Leaf) → expression_of f ≡ Some e → AreExprs f (e ∷ [])
unfolding expression_of
AreExprs-expression_of f e h =
    let s = bind_some (exprs_after 1 f []) (λ es. one_in es) e h in
    let q = ReadsExprs-exprs_after 1 f [] s.0 s.1 in
    AreExprs-one_in f s.0 e (subst (AreExprs f) (sym q.all) q.are) s.2
