-- The conditions and effects of the grammar are read.
use Rattle.std.proofs.Common.{◌≡◌, ℕ, false, List, [], ◌∷◌, ◌++◌, Some, refl, sym, ap, ◌∙◌, append_assoc}
use Rattle.std.proofs.lemmas.List.{append-nil}
use Rattle.hd_forms.specs.declared.word.FormWord.{FormWord}
use Rattle.hd_forms.specs.Forms.{Forms, none, word, list}
use Rattle.hd_base.specs.Options.{◌>>=◌}
use Rattle.hd_terms.specs.declared.tree.Condition.{Condition}
use Rattle.hd_terms.specs.declared.tree.Condition.TheVariants as conditions
use Rattle.hd_terms.specs.declared.tree.Effect.{Effect}
use Rattle.hd_terms.specs.declared.tree.Atom.{Atom}
use Rattle.hd_terms.specs.declared.tree.Term.{Term}
use Rattle.hd_terms.specs.Atoms as a
use Rattle.hd_terms.specs.Atoms.{IsTerm, IsAtom}
use Rattle.hd_terms.specs.Conditions as g
use Rattle.hd_terms.specs.Conditions.{IsRelation, IsEquality, IsCondition, AreConditions}
use Rattle.hd_terms.specs.Effects as h
use Rattle.hd_terms.specs.Effects.{IsEffect, AreEffects}
use Rattle.hd_base.specs.Expression.{Expression}
use Rattle.hd_terms.specs.declared.tree.Leaf.{Leaf}
use Rattle.hd_terms.specs.Expressions as e
use Rattle.hd_terms.specs.Expressions.{AreExprs}
use Rattle.hd_terms.specs.Reading.{negated_atom_of, begins_with_term, terms_of, relation_of, denial_of, negated_condition, part_of_condition, conditions_after, condition_after, condition_at, change_of, part_of_effect, effects_after, effect_after, effect_at}
use Rattle.hd_terms.proofs.CompleteParts.{term_in-IsTerm, atom_of-IsAtom, pair_of-AreExprs, expression_of-AreExprs}

-- ---- parts of conditions

pub negated_atom_of-IsAtom : (c d : ℕ) {inside : Forms} {t : Atom} → IsAtom inside t → negated_atom_of (list c inside d none) ≡ Some t
unfolding negated_atom_of
negated_atom_of-IsAtom c d p = rw (atom_of-IsAtom p) refl

terms_of-IsTerm : {b c : ℕ} {v w : FormWord} {t u : Term} → IsTerm b v t → IsTerm c w u
    → terms_of (word b v (word c w none)) ≡ Some (t, u)
unfolding terms_of
terms_of-IsTerm p q = rw (term_in-IsTerm p, term_in-IsTerm q) refl

-- what is compared does not begin with a term
begins_with_term-AreExprs : {f : Forms} {x : Expression Leaf} {es : List (Expression Leaf)} → AreExprs f (x ∷ es) → begins_with_term f ≡ false
begins_with_term-AreExprs (e.numeral r) = refl
begins_with_term-AreExprs (e.value p r) = refl
begins_with_term-AreExprs (e.sum p r) = refl
begins_with_term-AreExprs (e.difference p r) = refl
begins_with_term-AreExprs (e.product p r) = refl
begins_with_term-AreExprs (e.negated p r) = refl

denial_of-IsAtom : {f : Forms} {t : Atom} → IsAtom f t → denial_of f ≡ Some (conditions.NotAtom t)
unfolding denial_of
denial_of-IsAtom (a.atom {at = at} {n = n} r) = rw (atom_of-IsAtom (a.atom {at = at} {n = n} r)) refl

denial_of-IsEquality : {f : Forms} {t u : Term} → IsEquality f t u → denial_of f ≡ Some (conditions.NotEqual t u)
unfolding denial_of
denial_of-IsEquality (g.equality a.name q) = rw (terms_of-IsTerm a.name q) refl
denial_of-IsEquality (g.equality a.variable q) = rw (terms_of-IsTerm a.variable q) refl

part_of_condition-IsCondition : {f : Forms} {c : Condition} → IsCondition f c → part_of_condition f ≡ Some c
unfolding part_of_condition negated_condition relation_of
part_of_condition-IsCondition (g.atom (a.atom {at = at} {n = n} r)) = rw (atom_of-IsAtom (a.atom {at = at} {n = n} r)) refl
part_of_condition-IsCondition (g.not_atom p) = rw (denial_of-IsAtom p) refl
part_of_condition-IsCondition (g.equal (g.equality a.name q)) = rw (terms_of-IsTerm a.name q) refl
part_of_condition-IsCondition (g.equal (g.equality a.variable q)) = rw (terms_of-IsTerm a.variable q) refl
part_of_condition-IsCondition (g.not_equal p) = rw (denial_of-IsEquality p) refl
part_of_condition-IsCondition (g.compare g.less r) = rw (pair_of-AreExprs r) refl
part_of_condition-IsCondition (g.compare g.less_or_equal r) = rw (pair_of-AreExprs r) refl
part_of_condition-IsCondition (g.compare g.equal r) = rw (begins_with_term-AreExprs r, pair_of-AreExprs r) refl
part_of_condition-IsCondition (g.compare g.greater_or_equal r) = rw (pair_of-AreExprs r) refl
part_of_condition-IsCondition (g.compare g.greater r) = rw (pair_of-AreExprs r) refl

-- a part is no list of conditions
condition_after-part : {f : Forms} {c : Condition} → IsCondition f c → (found : List Condition)
    → condition_after f found ≡ (part_of_condition f >>= λ d. Some (found ++ d ∷ []))
unfolding conditions_after
condition_after-part (g.atom (a.atom r)) found = refl
condition_after-part (g.not_atom p) found = refl
condition_after-part (g.equal (g.equality p q)) found = refl
condition_after-part (g.not_equal p) found = refl
condition_after-part (g.compare i r) found = refl

condition_after-IsCondition : {f : Forms} {c : Condition} → IsCondition f c
    → (found : List Condition) → condition_after f found ≡ Some (found ++ c ∷ [])
condition_after-IsCondition p found = condition_after-part p found ∙ rw (part_of_condition-IsCondition p) refl

conditions_after-AreConditions : {f : Forms} {cs : List Condition} → AreConditions f cs
    → (found : List Condition) → conditions_after f found ≡ Some (found ++ cs)
unfolding conditions_after
conditions_after-AreConditions g.end found = ap Some (sym (append-nil found))
conditions_after-AreConditions (g.nothing r) found = conditions_after-AreConditions r found
conditions_after-AreConditions (g.all {ds = ds} {cs = cs} p r) found =
    rw (conditions_after-AreConditions p found) (conditions_after-AreConditions r (found ++ ds) ∙ ap Some (append_assoc found ds cs))
conditions_after-AreConditions (g.one {c = c} {cs = cs} p r) found =
    rw (condition_after-IsCondition p found) (conditions_after-AreConditions r (found ++ c ∷ []) ∙ ap Some (append_assoc found (c ∷ []) cs))

pub condition_at-AreConditions : {a b : ℕ} {inside more : Forms} {cs : List Condition} → AreConditions (list a inside b none) cs
    → condition_at (list a inside b more) ≡ Some (cs, more)
unfolding condition_at
condition_at-AreConditions p = rw (conditions_after-AreConditions p []) refl

-- ---- effects

part_of_effect-IsEffect : {f : Forms} {c : Effect} → IsEffect f c → part_of_effect f ≡ Some c
unfolding part_of_effect change_of
part_of_effect-IsEffect (h.add (a.atom {at = at} {n = n} r)) = rw (atom_of-IsAtom (a.atom {at = at} {n = n} r)) refl
part_of_effect-IsEffect (h.delete {c = c} {d = d} p) = rw (negated_atom_of-IsAtom c d p) refl
part_of_effect-IsEffect (h.change p r) = rw (atom_of-IsAtom p, expression_of-AreExprs r) refl

-- a part is no list of effects
effect_after-part : {f : Forms} {c : Effect} → IsEffect f c → (found : List Effect)
    → effect_after f found ≡ (part_of_effect f >>= λ d. Some (found ++ d ∷ []))
unfolding effects_after
effect_after-part (h.add (a.atom r)) found = refl
effect_after-part (h.delete p) found = refl
effect_after-part (h.change p r) found = refl

effect_after-IsEffect : {f : Forms} {c : Effect} → IsEffect f c
    → (found : List Effect) → effect_after f found ≡ Some (found ++ c ∷ [])
effect_after-IsEffect p found = effect_after-part p found ∙ rw (part_of_effect-IsEffect p) refl

effects_after-AreEffects : {f : Forms} {cs : List Effect} → AreEffects f cs
    → (found : List Effect) → effects_after f found ≡ Some (found ++ cs)
unfolding effects_after
effects_after-AreEffects h.end found = ap Some (sym (append-nil found))
effects_after-AreEffects (h.nothing r) found = effects_after-AreEffects r found
effects_after-AreEffects (h.all {ds = ds} {es = cs} p r) found =
    rw (effects_after-AreEffects p found) (effects_after-AreEffects r (found ++ ds) ∙ ap Some (append_assoc found ds cs))
effects_after-AreEffects (h.one {e = c} {es = cs} p r) found =
    rw (effect_after-IsEffect p found) (effects_after-AreEffects r (found ++ c ∷ []) ∙ ap Some (append_assoc found (c ∷ []) cs))

pub effect_at-AreEffects : {a b : ℕ} {inside more : Forms} {cs : List Effect} → AreEffects (list a inside b none) cs
    → effect_at (list a inside b more) ≡ Some (cs, more)
unfolding effect_at
effect_at-AreEffects p = rw (effects_after-AreEffects p []) refl
