-- The conditions and effects that are read are in the grammar.
use Rattle.std.proofs.Common.{◌≡◌, ℕ, Bool, true, false, ◌&&◌, cond, List, [], ◌∷◌, ◌++◌, Option, Some, refl, sym, ap, subst, ◌∙◌, append_assoc}
use Rattle.std.proofs.lemmas.List.{append-nil}
use Rattle.std.proofs.lemmas.Option.{same_Some}
use Rattle.std.proofs.lemmas.Bool.{and_parts}
use Rattle.hd_base.proofs.Options.{cond_then_some}
use Rattle.hd_lex.specs.declared.token.Operator as signs
use Rattle.hd_lex.specs.declared.token.Operator.TheVariants as operators
use Rattle.hd_forms.specs.declared.word.ChangeWord as changing
use Rattle.hd_forms.specs.declared.word.FormWord.{FormWord}
use Rattle.hd_forms.specs.declared.word.FormWord.TheVariants as words
use Rattle.hd_forms.specs.Forms.{Forms, none, word, list}
use Rattle.hd_base.specs.Options.{◌>>=◌}
use Rattle.hd_forms.specs.Reading.{group_at, end_at}
use Rattle.hd_forms.proofs.Inverting.{bind_some, end_at-some, group_at-some}
use Rattle.hd_terms.specs.declared.tree.Atom.{Atom}
use Rattle.hd_terms.specs.declared.tree.Condition.{Condition}
use Rattle.hd_terms.specs.declared.tree.Condition.TheVariants as conditions
use Rattle.hd_terms.specs.declared.tree.Effect.{Effect}
use Rattle.hd_terms.specs.declared.tree.Effect.TheVariants as effects
use Rattle.hd_base.specs.declared.relation.Relation.{Relation}
use Rattle.hd_terms.specs.declared.tree.Term.{Term}
use Rattle.hd_terms.specs.Atoms.{IsTerm, IsAtom}
use Rattle.hd_terms.specs.Conditions as g
use Rattle.hd_terms.specs.Conditions.{IsRelation, IsEquality, IsCondition, AreConditions, comparison_by}
use Rattle.hd_terms.specs.Effects as h
use Rattle.hd_terms.specs.Effects.{IsEffect, AreEffects, place_of, placed_change}
use Rattle.hd_terms.specs.Reading.{term_in, term_at, atom_of, negated_atom_of, expression_of, pair_of, is_equal, begins_with_term, relation_in, terms_of, relation_of, denial_of, negated_condition, part_of_condition, conditions_after, condition_after, condition_at, change_of, part_of_effect, effects_after, effect_after, effect_at}
use Rattle.hd_terms.proofs.SoundParts.{IsTerm-term_in, IsAtom-atom_of, AreExprs-pair_of, AreExprs-expression_of}

-- ---- what stands after `not`

-- one form, alone, with this in it
pub record IsAlone (f inside : Forms) : Type 0 where
  pub from : ℕ
  pub to : ℕ
  pub whole : list from inside to none ≡ f

IsAlone-group_at : (f : Forms) (x : Forms × Forms) (u : Unit {0}) → group_at f ≡ Some x → end_at x.1 ≡ Some u → IsAlone f x.0
IsAlone-group_at f x u e ends =
    let p = group_at-some f x e in
    record { from = p.0; to = p.1; whole = sym (p.2 ∙ ap (list p.0 x.0 p.1) (end_at-some x.1 u ends)) }

-- an atom in a form alone
pub record IsNegated (f : Forms) (t : Atom) : Type 0 where
  pub inside : Forms
  pub alone : IsAlone f inside
  pub atom : IsAtom inside t

pub IsNegated-negated_atom_of : (f : Forms) (t : Atom) → negated_atom_of f ≡ Some t → IsNegated f t
unfolding negated_atom_of
IsNegated-negated_atom_of f t e =
    let s = bind_some (group_at f) (λ x. atom_of x.0 >>= λ m. end_at x.1 >>= λ _. Some m) t e in
    let u = bind_some (atom_of s.0.0) (λ m. end_at s.0.1 >>= λ _. Some m) t s.2 in
    let v = bind_some (end_at s.0.1) (λ _. Some u.0) t u.2 in
    record {
      inside = s.0.0;
      alone = IsAlone-group_at f s.0 v.0 s.1 v.1;
      atom = subst (IsAtom s.0.0) (same_Some u.0 t v.2) (IsAtom-atom_of s.0.0 u.0 u.1);
    }

-- ---- equalities and comparisons

-- a term stands first in these forms
record IsTermAt (f : Forms) (t : Term) (more : Forms) : Type 0 where
  at : ℕ
  w : FormWord
  whole : word at w more ≡ f
  term : IsTerm at w t

IsTermAt-term_at : (f : Forms) (x : Term × Forms) → term_at f ≡ Some x → IsTermAt f x.0 x.1
IsTermAt-term_at none x e = absurd cc
IsTermAt-term_at (word at w rest) x e =
    let s = bind_some (term_in at w) (λ t. Some (t, rest)) x e in
    subst (λ (y : Term × Forms). IsTermAt (word at w rest) y.0 y.1) (same_Some (s.0, rest) x s.2)
    (record { at = at; w = w; whole = refl; term = IsTerm-term_in at w s.0 s.1 })
IsTermAt-term_at (list a inside b rest) x e = absurd cc

IsEquality-terms_of : (a : ℕ) (f : Forms) (p : Term × Term) → terms_of f ≡ Some p
    → IsEquality (word a (words.Operator operators.Equal) f) p.0 p.1
unfolding terms_of
IsEquality-terms_of a f p e =
    let s = bind_some (term_at f) (λ t. term_at t.1 >>= λ u. end_at u.1 >>= λ _. Some (t.0, u.0)) p e in
    let u = bind_some (term_at s.0.1) (λ u. end_at u.1 >>= λ _. Some (s.0.0, u.0)) p s.2 in
    let v = bind_some (end_at u.0.1) (λ _. Some (s.0.0, u.0.0)) p u.2 in
    let first = IsTermAt-term_at f s.0 s.1 in
    let second = IsTermAt-term_at s.0.1 u.0 u.1 in
    let last : word second.at second.w none ≡ s.0.1 =
    ap (word second.at second.w) (sym (end_at-some u.0.1 v.0 v.1)) ∙ second.whole in
    let whole : word first.at first.w (word second.at second.w none) ≡ f = ap (word first.at first.w) last ∙ first.whole in
    let made : IsEquality (word a (words.Operator operators.Equal) (word first.at first.w (word second.at second.w none)))
    s.0.0 u.0.0 = g.equality first.term second.term in
    subst (λ (q : Term × Term). IsEquality (word a (words.Operator operators.Equal) f) q.0 q.1) (same_Some (s.0.0, u.0.0) p v.2)
    (subst (λ (y : Forms). IsEquality (word a (words.Operator operators.Equal) y) s.0.0 u.0.0) whole made)

IsRelation-relation_in : (o : signs.Operator) (r : Relation) → relation_in o ≡ Some r → IsRelation o r
IsRelation-relation_in operators.Less r e = subst (IsRelation operators.Less) (same_Some _ r e) g.less
IsRelation-relation_in operators.LessOrEqual r e = subst (IsRelation operators.LessOrEqual) (same_Some _ r e) g.less_or_equal
IsRelation-relation_in operators.Equal r e = subst (IsRelation operators.Equal) (same_Some _ r e) g.equal
IsRelation-relation_in operators.GreaterOrEqual r e = subst (IsRelation operators.GreaterOrEqual) (same_Some _ r e) g.greater_or_equal
IsRelation-relation_in operators.Greater r e = subst (IsRelation operators.Greater) (same_Some _ r e) g.greater
IsRelation-relation_in o r e = absurd cc

pub is_equal-true : (o : signs.Operator) → is_equal o ≡ true → o ≡ operators.Equal
is_equal-true operators.Equal e = refl
is_equal-true o e = absurd cc

abbrev comparison_of : signs.Operator → Forms → Option Condition
comparison_of o rest = relation_in o >>= λ r. pair_of rest >>= λ p. Some (comparison_by r p.0 p.1)

abbrev equal_by : Forms → Option Condition
equal_by rest = terms_of rest >>= λ p. Some (conditions.Equal p.0 p.1)

-- either branch of an operator
IsCondition-relation_of : (b : Bool) (a : ℕ) (o : signs.Operator) (rest : Forms) (c : Condition)
    → (b ≡ true → o ≡ operators.Equal) → cond b (equal_by rest) (comparison_of o rest) ≡ Some c
    → IsCondition (word a (words.Operator o) rest) c
IsCondition-relation_of true a o rest c equal e =
    let s = bind_some (terms_of rest) (λ p. Some (conditions.Equal p.0 p.1)) c e in
    let made : IsCondition (word a (words.Operator operators.Equal) rest) (conditions.Equal s.0.0 s.0.1) =
    g.equal (IsEquality-terms_of a rest s.0 s.1) in
    subst (IsCondition (word a (words.Operator o) rest)) (same_Some (conditions.Equal s.0.0 s.0.1) c s.2)
    (subst (λ (q : signs.Operator). IsCondition (word a (words.Operator q) rest) (conditions.Equal s.0.0 s.0.1))
    (sym (equal refl)) made)
IsCondition-relation_of false a o rest c equal e =
    let s = bind_some (relation_in o) (λ r. pair_of rest >>= λ p. Some (comparison_by r p.0 p.1)) c e in
    let t = bind_some (pair_of rest) (λ p. Some (comparison_by s.0 p.0 p.1)) c s.2 in
    subst (IsCondition (word a (words.Operator o) rest)) (same_Some (comparison_by s.0 t.0.0 t.0.1) c t.2)
    (g.compare (IsRelation-relation_in o s.0 s.1) (AreExprs-pair_of rest t.0 t.1))

-- ---- parts of conditions

-- what is denied in a form
abbrev Denies : Forms → Condition → Type 0
Denies inside c = (a from to : ℕ) → IsCondition (word a words.Not (list from inside to none)) c

Denies-atom_of : (f : Forms) (c : Condition) → (atom_of f >>= λ t. Some (conditions.NotAtom t)) ≡ Some c → Denies f c
Denies-atom_of f c e =
    let s = bind_some (atom_of f) (λ t. Some (conditions.NotAtom t)) c e in
    subst (Denies f) (same_Some (conditions.NotAtom s.0) c s.2) (λ a from to. g.not_atom (IsAtom-atom_of f s.0 s.1))

Denies-denial_of : (f : Forms) (c : Condition) → denial_of f ≡ Some c → Denies f c
unfolding denial_of
Denies-denial_of (word at (words.Operator o) rest) c e =
    let t =
    cond_then_some (is_equal o && begins_with_term rest) (terms_of rest >>= λ p. Some (conditions.NotEqual p.0 p.1)) c e in
    let s = bind_some (terms_of rest) (λ p. Some (conditions.NotEqual p.0 p.1)) c t.1 in
    let same = is_equal-true o (and_parts (is_equal o) (begins_with_term rest) t.0).0 in
    let made : Denies (word at (words.Operator operators.Equal) rest) (conditions.NotEqual s.0.0 s.0.1) =
    λ a from to. g.not_equal (IsEquality-terms_of at rest s.0 s.1) in
    subst (Denies (word at (words.Operator o) rest)) (same_Some (conditions.NotEqual s.0.0 s.0.1) c s.2)
    (subst (λ (q : signs.Operator). Denies (word at (words.Operator q) rest) (conditions.NotEqual s.0.0 s.0.1)) (sym same) made)
Denies-denial_of f c e = Denies-atom_of f c e

IsCondition-negated_condition : (at : ℕ) (f : Forms) (c : Condition) → negated_condition f ≡ Some c
    → IsCondition (word at words.Not f) c
unfolding negated_condition
IsCondition-negated_condition at f c e =
    let s = bind_some (group_at f) (λ x. denial_of x.0 >>= λ m. end_at x.1 >>= λ _. Some m) c e in
    let u = bind_some (denial_of s.0.0) (λ m. end_at s.0.1 >>= λ _. Some m) c s.2 in
    let v = bind_some (end_at s.0.1) (λ _. Some u.0) c u.2 in
    let alone = IsAlone-group_at f s.0 v.0 s.1 v.1 in
    subst (IsCondition (word at words.Not f)) (same_Some u.0 c v.2)
    (subst (λ (y : Forms). IsCondition (word at words.Not y) u.0) alone.whole (Denies-denial_of s.0.0 u.0 u.1 at alone.from alone.to))

IsCondition-atom_of : (f : Forms) (c : Condition) → (atom_of f >>= λ t. Some (conditions.Atom t)) ≡ Some c → IsCondition f c
IsCondition-atom_of f c e =
    let s = bind_some (atom_of f) (λ t. Some (conditions.Atom t)) c e in
    subst (IsCondition f) (same_Some (conditions.Atom s.0) c s.2) (g.atom (IsAtom-atom_of f s.0 s.1))

IsCondition-part_of_condition : (f : Forms) (c : Condition) → part_of_condition f ≡ Some c → IsCondition f c
unfolding part_of_condition relation_of
IsCondition-part_of_condition (word at words.Not rest) c e = IsCondition-negated_condition at rest c e
IsCondition-part_of_condition (word at (words.Operator o) rest) c e =
    IsCondition-relation_of (is_equal o && begins_with_term rest) at o rest c
    (λ is. is_equal-true o (and_parts (is_equal o) (begins_with_term rest) is).0) e
IsCondition-part_of_condition f c e = IsCondition-atom_of f c e

-- ---- conditions

-- one more condition before the others
abbrev Says : Forms → List Condition → Type 0
Says inside ms =
    (a b : ℕ) (rest : Forms) (ls : List Condition) → AreConditions rest ls → AreConditions (list a inside b rest) (ms ++ ls)

record Reads (f : Forms) (found ls : List Condition) : Type 0 where
  own : List Condition
  are : AreConditions f own
  all : ls ≡ found ++ own

record ReadsOne (f : Forms) (found ls : List Condition) : Type 0 where
  own : List Condition
  are : Says f own
  all : ls ≡ found ++ own

ReadsOne-part_of_condition : (f : Forms) (found ls : List Condition) → (part_of_condition f >>= λ c. Some (found ++ c ∷ [])) ≡ Some ls
    → ReadsOne f found ls
ReadsOne-part_of_condition f found ls e =
    let s = bind_some (part_of_condition f) (λ c. Some (found ++ c ∷ [])) ls e in
    let is = IsCondition-part_of_condition f s.0 s.1 in
    record {
      own = s.0 ∷ [];
      are = λ a b rest ls' r. g.one is r;
      all = sym (same_Some (found ++ s.0 ∷ []) ls s.2);
    }

mutual
  unfolding conditions_after

  Reads-conditions_after : (f : Forms) (found ls : List Condition) → conditions_after f found ≡ Some ls → Reads f found ls
  Reads-conditions_after none found ls e =
      record { own = []; are = g.end; all = sym (same_Some found ls e) ∙ sym (append-nil found) }
  Reads-conditions_after (word at w rest) found ls e = absurd cc
  Reads-conditions_after (list a inside b rest) found ls e =
      let s = bind_some (condition_after inside found) (λ more. conditions_after rest more) ls e in
      let p = ReadsOne-condition_after inside found s.0 s.1 in
      let q = Reads-conditions_after rest s.0 ls s.2 in
      record {
        own = p.own ++ q.own;
        are = p.are a b rest q.own q.are;
        all = q.all ∙ ap (λ (y : List Condition). y ++ q.own) p.all ∙ append_assoc found p.own q.own;
      }

  ReadsOne-condition_after : (f : Forms) (found ls : List Condition) → condition_after f found ≡ Some ls → ReadsOne f found ls
  ReadsOne-condition_after none found ls e =
      record { own = []; are = λ a b rest ls' r. g.nothing r; all = sym (same_Some found ls e) ∙ sym (append-nil found) }
  ReadsOne-condition_after (word at words.And inside) found ls e =
      let p = Reads-conditions_after inside found ls e in
      record { own = p.own; are = λ a b rest ls' r. g.all p.are r; all = p.all }
  ReadsOne-condition_after f found ls e = ReadsOne-part_of_condition f found ls e

-- one condition, and what follows it
pub record IsConditionAt (f : Forms) (cs : List Condition) (more : Forms) : Type 0 where
  pub from : ℕ
  pub to : ℕ
  pub inside : Forms
  pub whole : list from inside to more ≡ f
  pub are : AreConditions (list from inside to none) cs

pub IsConditionAt-condition_at : (f : Forms) (x : List Condition × Forms) → condition_at f ≡ Some x → IsConditionAt f x.0 x.1
unfolding condition_at
IsConditionAt-condition_at none x e = absurd cc
IsConditionAt-condition_at (word at w rest) x e = absurd cc
IsConditionAt-condition_at (list a inside b rest) x e =
    let s = bind_some (conditions_after (list a inside b none) []) (λ ms. Some (ms, rest)) x e in
    let p = Reads-conditions_after (list a inside b none) [] s.0 s.1 in
    let are : AreConditions (list a inside b none) s.0 = subst (AreConditions (list a inside b none)) (sym p.all) p.are in
    subst (λ (y : List Condition × Forms). IsConditionAt (list a inside b rest) y.0 y.1) (same_Some (s.0, rest) x s.2)
    (record { from = a; to = b; inside = inside; whole = refl; are = are })

-- ---- parts of effects

IsEffect-negated_atom_of : (at : ℕ) (f : Forms) (c : Effect) → (negated_atom_of f >>= λ t. Some (effects.Delete t)) ≡ Some c
    → IsEffect (word at words.Not f) c
IsEffect-negated_atom_of at f c e =
    let s = bind_some (negated_atom_of f) (λ t. Some (effects.Delete t)) c e in
    let p = IsNegated-negated_atom_of f s.0 s.1 in
    let made : IsEffect (word at words.Not (list p.alone.from p.inside p.alone.to none)) (effects.Delete s.0) = h.delete p.atom in
    subst (IsEffect (word at words.Not f)) (same_Some (effects.Delete s.0) c s.2)
    (subst (λ (y : Forms). IsEffect (word at words.Not y) (effects.Delete s.0)) p.alone.whole made)

IsEffect-change_of : (at : ℕ) (k : changing.ChangeWord) (f : Forms) (c : Effect) → change_of k f ≡ Some c
    → IsEffect (word at (words.Change k) f) c
unfolding change_of
IsEffect-change_of at k f c e =
    let s =
    bind_some (group_at f) (λ x. atom_of x.0 >>= λ t. expression_of x.1 >>= λ y. Some (placed_change k t y (place_of x.1))) c e in
    let t = bind_some (atom_of s.0.0) (λ t. expression_of s.0.1 >>= λ y. Some (placed_change k t y (place_of s.0.1))) c s.2 in
    let u = bind_some (expression_of s.0.1) (λ y. Some (placed_change k t.0 y (place_of s.0.1))) c t.2 in
    let p = group_at-some f s.0 s.1 in
    let its = placed_change k t.0 u.0 (place_of s.0.1) in
    let made : IsEffect (word at (words.Change k) (list p.0 s.0.0 p.1 s.0.1)) its =
    h.change (IsAtom-atom_of s.0.0 t.0 t.1) (AreExprs-expression_of s.0.1 u.0 u.1) in
    subst (IsEffect (word at (words.Change k) f)) (same_Some its c u.2)
    (subst (λ (y : Forms). IsEffect (word at (words.Change k) y) its) (sym p.2) made)

IsEffect-atom_of : (f : Forms) (c : Effect) → (atom_of f >>= λ t. Some (effects.Add t)) ≡ Some c → IsEffect f c
IsEffect-atom_of f c e =
    let s = bind_some (atom_of f) (λ t. Some (effects.Add t)) c e in
    subst (IsEffect f) (same_Some (effects.Add s.0) c s.2) (h.add (IsAtom-atom_of f s.0 s.1))

IsEffect-part_of_effect : (f : Forms) (c : Effect) → part_of_effect f ≡ Some c → IsEffect f c
unfolding part_of_effect
IsEffect-part_of_effect (word at words.Not rest) c e = IsEffect-negated_atom_of at rest c e
IsEffect-part_of_effect (word at (words.Change k) rest) c e = IsEffect-change_of at k rest c e
IsEffect-part_of_effect f c e = IsEffect-atom_of f c e

-- ---- effects

-- one more effect before the others
abbrev SaysEffects : Forms → List Effect → Type 0
SaysEffects inside ms =
    (a b : ℕ) (rest : Forms) (ls : List Effect) → AreEffects rest ls → AreEffects (list a inside b rest) (ms ++ ls)

record ReadsEffects (f : Forms) (found ls : List Effect) : Type 0 where
  own : List Effect
  are : AreEffects f own
  all : ls ≡ found ++ own

record ReadsOneEffect (f : Forms) (found ls : List Effect) : Type 0 where
  own : List Effect
  are : SaysEffects f own
  all : ls ≡ found ++ own

ReadsOneEffect-part_of_effect : (f : Forms) (found ls : List Effect) → (part_of_effect f >>= λ c. Some (found ++ c ∷ [])) ≡ Some ls
    → ReadsOneEffect f found ls
ReadsOneEffect-part_of_effect f found ls e =
    let s = bind_some (part_of_effect f) (λ c. Some (found ++ c ∷ [])) ls e in
    let is = IsEffect-part_of_effect f s.0 s.1 in
    record {
      own = s.0 ∷ [];
      are = λ a b rest ls' r. h.one is r;
      all = sym (same_Some (found ++ s.0 ∷ []) ls s.2);
    }

mutual
  unfolding effects_after

  ReadsEffects-effects_after : (f : Forms) (found ls : List Effect) → effects_after f found ≡ Some ls → ReadsEffects f found ls
  ReadsEffects-effects_after none found ls e =
      record { own = []; are = h.end; all = sym (same_Some found ls e) ∙ sym (append-nil found) }
  ReadsEffects-effects_after (word at w rest) found ls e = absurd cc
  ReadsEffects-effects_after (list a inside b rest) found ls e =
      let s = bind_some (effect_after inside found) (λ more. effects_after rest more) ls e in
      let p = ReadsOneEffect-effect_after inside found s.0 s.1 in
      let q = ReadsEffects-effects_after rest s.0 ls s.2 in
      record {
        own = p.own ++ q.own;
        are = p.are a b rest q.own q.are;
        all = q.all ∙ ap (λ (y : List Effect). y ++ q.own) p.all ∙ append_assoc found p.own q.own;
      }

  ReadsOneEffect-effect_after : (f : Forms) (found ls : List Effect) → effect_after f found ≡ Some ls → ReadsOneEffect f found ls
  ReadsOneEffect-effect_after none found ls e =
      record { own = []; are = λ a b rest ls' r. h.nothing r; all = sym (same_Some found ls e) ∙ sym (append-nil found) }
  ReadsOneEffect-effect_after (word at words.And inside) found ls e =
      let p = ReadsEffects-effects_after inside found ls e in
      record { own = p.own; are = λ a b rest ls' r. h.all p.are r; all = p.all }
  ReadsOneEffect-effect_after f found ls e = ReadsOneEffect-part_of_effect f found ls e

-- one effect, and what follows it
pub record IsEffectAt (f : Forms) (es : List Effect) (more : Forms) : Type 0 where
  pub from : ℕ
  pub to : ℕ
  pub inside : Forms
  pub whole : list from inside to more ≡ f
  pub are : AreEffects (list from inside to none) es

pub IsEffectAt-effect_at : (f : Forms) (x : List Effect × Forms) → effect_at f ≡ Some x → IsEffectAt f x.0 x.1
unfolding effect_at
IsEffectAt-effect_at none x e = absurd cc
IsEffectAt-effect_at (word at w rest) x e = absurd cc
IsEffectAt-effect_at (list a inside b rest) x e =
    let s = bind_some (effects_after (list a inside b none) []) (λ ms. Some (ms, rest)) x e in
    let p = ReadsEffects-effects_after (list a inside b none) [] s.0 s.1 in
    let are : AreEffects (list a inside b none) s.0 = subst (AreEffects (list a inside b none)) (sym p.all) p.are in
    subst (λ (y : List Effect × Forms). IsEffectAt (list a inside b rest) y.0 y.1) (same_Some (s.0, rest) x s.2)
    (record { from = a; to = b; inside = inside; whole = refl; are = are })
