-- The atoms and expressions of the grammar are read.
use Rattle.std.proofs.Common.{◌≡◌, ℕ, ◌+◌, ◌≤◌, ◌==◌, suc, false, length, List, [], ◌∷◌, ◌++◌, Some, refl, sym, ap, ◌∙◌, append_assoc, arith, length-append}
use Rattle.std.proofs.lemmas.List.{append-nil}
use Rattle.hd_forms.specs.declared.word.FormWord.{FormWord}
use Rattle.hd_forms.specs.Forms.{Forms}
use Rattle.hd_terms.specs.declared.tree.Atom.{Atom}
use Rattle.hd_terms.specs.declared.tree.Term.{Term}
use Rattle.hd_terms.specs.Atoms as a
use Rattle.hd_terms.specs.Atoms.{IsTerm, AreTerms, IsAtom}
use Rattle.hd_base.specs.Expression.{Expression, leaf}
use Rattle.hd_terms.specs.declared.tree.Leaf.{Leaf}
use Rattle.hd_terms.specs.declared.tree.Leaf.TheVariants as leaves
use Rattle.hd_terms.specs.Expressions as e
use Rattle.hd_terms.specs.Expressions.{AreExprs}
use Rattle.hd_terms.specs.Reading.{term_in, terms_after, atom_of, exprs_after, expr_in, expression_of, pair_of}

-- ---- atoms

pub term_in-IsTerm : {at : ℕ} {w : FormWord} {t : Term} → IsTerm at w t → term_in at w ≡ Some t
term_in-IsTerm a.name = refl
term_in-IsTerm a.variable = refl

pub terms_after-AreTerms : {f : Forms} {ts : List Term} → AreTerms f ts
    → (found : List Term) → terms_after f found ≡ Some (found ++ ts)
unfolding terms_after
terms_after-AreTerms a.end found = ap Some (sym (append-nil found))
terms_after-AreTerms (a.one {t = t} {ts = ts} i r) found =
    rw (term_in-IsTerm i) (terms_after-AreTerms r (found ++ t ∷ []) ∙ ap Some (append_assoc found (t ∷ []) ts))

pub atom_of-IsAtom : {f : Forms} {t : Atom} → IsAtom f t → atom_of f ≡ Some t
unfolding atom_of
atom_of-IsAtom (a.atom r) = rw (terms_after-AreTerms r []) refl

-- ---- expressions

expr_in-IsAtom : {f : Forms} {t : Atom} → IsAtom f t → expr_in f ≡ Some (leaf (leaves.Fluent t))
unfolding exprs_after atom_of
expr_in-IsAtom (a.atom r) = rw (terms_after-AreTerms r []) refl

-- there is room for one more
has_room : (found : List (Expression Leaf)) (n most : ℕ) → length found + suc n ≤ most → (length found == most) ≡ false
has_room found n most h = grind arith

less_room : (found : List (Expression Leaf)) (x : Expression Leaf) (n most : ℕ)
    → length found + suc n ≤ most → length (found ++ x ∷ []) + n ≤ most
less_room found x n most h = omega (arith, length-append found (x ∷ []))

pub exprs_after-AreExprs : {f : Forms} {es : List (Expression Leaf)} → AreExprs f es
    → (most : ℕ) (found : List (Expression Leaf)) → length found + length es ≤ most
    → exprs_after most f found ≡ Some (found ++ es)
unfolding exprs_after
exprs_after-AreExprs e.end most found h = ap Some (sym (append-nil found))
exprs_after-AreExprs (e.numeral {at = at} {v = v} {es = es} r) most found h =
    let x = leaf (leaves.Number at v) in
    rw (has_room found (length es) most h) (
    exprs_after-AreExprs r most (found ++ x ∷ []) (less_room found x (length es) most h) ∙ ap Some (append_assoc found (x ∷ []) es)
    )
exprs_after-AreExprs (e.value {f = t} {es = es} p r) most found h =
    let x = leaf (leaves.Fluent t) in
    rw (has_room found (length es) most h, expr_in-IsAtom p) (
    exprs_after-AreExprs r most (found ++ x ∷ []) (less_room found x (length es) most h) ∙ ap Some (append_assoc found (x ∷ []) es)
    )
exprs_after-AreExprs (e.sum {es = es} p r) most found h =
    rw (has_room found (length es) most h, exprs_after-AreExprs p 2 [] (omega arith)) (
    exprs_after-AreExprs r most (found ++ _ ∷ []) (less_room found _ (length es) most h) ∙ ap Some (append_assoc found (_ ∷ []) es)
    )
exprs_after-AreExprs (e.difference {es = es} p r) most found h =
    rw (has_room found (length es) most h, exprs_after-AreExprs p 2 [] (omega arith)) (
    exprs_after-AreExprs r most (found ++ _ ∷ []) (less_room found _ (length es) most h) ∙ ap Some (append_assoc found (_ ∷ []) es)
    )
exprs_after-AreExprs (e.product {es = es} p r) most found h =
    rw (has_room found (length es) most h, exprs_after-AreExprs p 2 [] (omega arith)) (
    exprs_after-AreExprs r most (found ++ _ ∷ []) (less_room found _ (length es) most h) ∙ ap Some (append_assoc found (_ ∷ []) es)
    )
exprs_after-AreExprs (e.negated {es = es} p r) most found h =
    rw (has_room found (length es) most h, exprs_after-AreExprs p 2 [] (omega arith)) (
    exprs_after-AreExprs r most (found ++ _ ∷ []) (less_room found _ (length es) most h) ∙ ap Some (append_assoc found (_ ∷ []) es)
    )

pub pair_of-AreExprs : {f : Forms} {x y : Expression Leaf} → AreExprs f (x ∷ (y ∷ [])) → pair_of f ≡ Some (x, y)
unfolding pair_of
pair_of-AreExprs r = rw (exprs_after-AreExprs r 2 [] (omega arith)) refl

pub expression_of-AreExprs : {f : Forms} {x : Expression Leaf} → AreExprs f (x ∷ []) → expression_of f ≡ Some x
unfolding expression_of
expression_of-AreExprs r = rw (exprs_after-AreExprs r 1 [] (omega arith)) refl
