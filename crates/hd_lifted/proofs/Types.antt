-- Steps up the types: where they lead, cycles, and the relation of subtypes.
use Rattle.std.proofs.Common.{◌≡◌, ◌≢◌, ℕ, zero, suc, ◌+◌, ◌<◌, ◌≤◌, ◌==◌, Bool, true, false, ◌||◌, ◌⊎◌, inl, inr, List, length, min, refl, sym, ap, ◌∙◌, subst, arith, eq-eqb}
use Rattle.std.proofs.Math.Bool.{or-true}
use Rattle.std.proofs.lemmas.Bool.{cases_lt, eqb-true, or_cases}
use Rattle.std.proofs.lemmas.List.{get_or_past}
use Rattle.hd_lifted.specs.Types.{parent_of, ancestor, IsSubtype, reflexive, transitive, listed, object, IsOnCycle, IsAcyclic, IsRooted, meets, is_subtype}

-- ---- steps

-- `object` is its own ancestor
pub ancestor-object : (parents : List ℕ) (n : ℕ) → ancestor parents n 0 ≡ 0
ancestor-object parents zero = refl
ancestor-object parents (suc n) = ancestor-object parents n

-- some steps and then others
pub ancestor-add : (parents : List ℕ) (j k t : ℕ) → ancestor parents (j + k) t ≡ ancestor parents k (ancestor parents j t)
ancestor-add parents zero k t = let e : zero + k ≡ k = omega arith in ap (λ n. ancestor parents n t) e
ancestor-add parents (suc j) k t =
    let e : suc j + k ≡ suc (j + k) = omega arith in
    ap (λ n. ancestor parents n t) e ∙ ancestor-add parents j k (parent_of parents t)

-- one step more at the end
pub ancestor-last : (parents : List ℕ) (n t : ℕ) → ancestor parents (suc n) t ≡ parent_of parents (ancestor parents n t)
ancestor-last parents zero t = refl
ancestor-last parents (suc n) t = ancestor-last parents n (parent_of parents t)

-- from `object` no step leads away
pub ancestor-stays : (parents : List ℕ) (m n t : ℕ) → m ≤ n → ancestor parents m t ≡ 0 → ancestor parents n t ≡ 0
ancestor-stays parents zero n t le e = ap (λ u. ancestor parents n u) e ∙ ancestor-object parents n
ancestor-stays parents (suc m) zero t le e = absurd (omega arith)
ancestor-stays parents (suc m) (suc n) t le e = ancestor-stays parents m n (parent_of parents t) (omega arith) e

-- the parent of a number beyond the list
pub parent_beyond : (parents : List ℕ) (t : ℕ) → length parents < t → parent_of parents t ≡ 0
parent_beyond parents zero lt = refl
parent_beyond parents (suc t) lt = get_or_past parents t 0 (omega arith)

-- ---- cycles

-- the parent of a type on a cycle lies on it
pub cycle_parent : (parents : List ℕ) (t : ℕ) → IsOnCycle parents t → IsOnCycle parents (parent_of parents t)
cycle_parent parents t c = record {
  below_object = λ e.
      let back : ancestor parents (suc c.more_steps) t ≡ 0 = ap (λ u. ancestor parents c.more_steps u) e ∙ ancestor-object parents c.more_steps in
      c.below_object (sym c.returns ∙ back);
  more_steps = c.more_steps;
  returns = ancestor-last parents c.more_steps (parent_of parents t) ∙ ap (λ u. parent_of parents u) c.returns;
}

pub cycle_ancestor : (parents : List ℕ) (n t : ℕ) → IsOnCycle parents t → IsOnCycle parents (ancestor parents n t)
cycle_ancestor parents zero t c = c
cycle_ancestor parents (suc n) t c = cycle_ancestor parents n (parent_of parents t) (cycle_parent parents t c)

-- where steps lead from each type to `object`, no type lies on a cycle
pub acyclic-from_rooted : (parents : List ℕ) → IsRooted parents → IsAcyclic parents
acyclic-from_rooted parents r t c = (cycle_ancestor parents (length parents + 1) t c).below_object (r t)

-- the lesser of two types on cycles
pub cycle_min : (parents : List ℕ) (t u v : ℕ) → v ≡ min t u → IsOnCycle parents t → IsOnCycle parents u → IsOnCycle parents v
cycle_min parents t u v is a b =
    elim (cases_lt t u) [
      | inl lt ↦ let e : t ≡ v = omega arith in subst (IsOnCycle parents) e a
      | inr le ↦ let e : u ≡ v = omega arith in subst (IsOnCycle parents) e b
    ]

-- ---- subtypes

-- a type is below each of its ancestors
pub below_ancestor : (parents : List ℕ) (n t : ℕ) → IsSubtype parents t (ancestor parents n t)
below_ancestor parents zero t = reflexive t
below_ancestor parents (suc n) t = transitive (listed t) (below_ancestor parents n (parent_of parents t))

-- some steps lead from a type to the other
pub record Reaches (parents : List ℕ) (t u : ℕ) : Type 0 where
  pub steps : ℕ
  pub leads : ancestor parents steps t ≡ u

then_reaches : (parents : List ℕ) (t u v : ℕ) → (u ≡ 0) ⊎ Reaches parents t u → (v ≡ 0) ⊎ Reaches parents u v → (v ≡ 0) ⊎ Reaches parents t v
then_reaches parents t u v a (inl e) = inl e
then_reaches parents t u v (inl e) (inr b) = inl (sym b.leads ∙ (ap (λ w. ancestor parents b.steps w) e ∙ ancestor-object parents b.steps))
then_reaches parents t u v (inr a) (inr b) = inr (record {
  steps = a.steps + b.steps;
  leads = ancestor-add parents a.steps b.steps t ∙ (ap (λ w. ancestor parents b.steps w) a.leads ∙ b.leads);
})

-- what is above a type: `object`, and where steps lead
pub above : {parents : List ℕ} {t u : ℕ} → IsSubtype parents t u → (u ≡ 0) ⊎ Reaches parents t u
above (reflexive t) = inr (record { steps = 0; leads = refl })
above {parents} (transitive {t} {u} {v} a b) = then_reaches parents t u v (above a) (above b)
above (listed t) = inr (record { steps = 1; leads = refl })
above (object t) = inl refl

-- what is above a type, and not the type itself, is above its parent
pub above_parent : (parents : List ℕ) (t u : ℕ) → t ≢ u → IsSubtype parents t u → IsSubtype parents (parent_of parents t) u
above_parent parents t u ne s = from_above parents t u ne (above s) where
  from_steps : (parents : List ℕ) (t u n : ℕ) → t ≢ u → ancestor parents n t ≡ u → IsSubtype parents (parent_of parents t) u
  from_steps parents t u zero ne e = absurd (ne e)
  from_steps parents t u (suc n) ne e = subst (IsSubtype parents (parent_of parents t)) e (below_ancestor parents n (parent_of parents t))

  from_above : (parents : List ℕ) (t u : ℕ) → t ≢ u → (u ≡ 0) ⊎ Reaches parents t u → IsSubtype parents (parent_of parents t) u
  from_above parents t u ne (inl e) = subst (IsSubtype parents (parent_of parents t)) (sym e) (object (parent_of parents t))
  from_above parents t u ne (inr a) = from_steps parents t u a.steps ne a.leads

-- nothing but `object` is above `object`
pub above_object : (parents : List ℕ) (u : ℕ) → IsSubtype parents 0 u → u ≡ 0
above_object parents u s = elim (above s) [
  | inl e ↦ e
  | inr a ↦ sym a.leads ∙ ancestor-object parents a.steps
]

-- ---- the test of the relation

-- one of the steps comes to the type
meets-below : (parents : List ℕ) (n t u : ℕ) → meets parents n t u ≡ true → IsSubtype parents t u
meets-below parents zero t u h = subst (IsSubtype parents t) (eqb-true t u h) (reflexive t)
meets-below parents (suc n) t u h = elim (or_cases (t == u) (meets parents n (parent_of parents t) u) h) [
  | inl e ↦ subst (IsSubtype parents t) (eqb-true t u e) (reflexive t)
  | inr m ↦ transitive (listed t) (meets-below parents n (parent_of parents t) u m)
]

-- a type that so many steps lead to is met within them
meets-ancestor : (parents : List ℕ) (k n t u : ℕ) → k ≤ n → ancestor parents k t ≡ u → meets parents n t u ≡ true
meets-ancestor parents zero zero t u le e = eq-eqb t u e
meets-ancestor parents zero (suc n) t u le e = ap (λ b. b || meets parents n (parent_of parents t) u) (eq-eqb t u e)
meets-ancestor parents (suc k) zero t u le e = absurd (omega arith)
meets-ancestor parents (suc k) (suc n) t u le e =
    let later : meets parents n (parent_of parents t) u ≡ true = meets-ancestor parents k n (parent_of parents t) u (omega arith) e in
    ap (λ b. (t == u) || b) later ∙ or-true (t == u)

pub is_subtype-sound : (parents : List ℕ) (t u : ℕ) → is_subtype parents t u ≡ true → IsSubtype parents t u
is_subtype-sound parents t u h = meets-below parents (length parents + 1) t u h

pub is_subtype-complete : (parents : List ℕ) (t u : ℕ) → IsRooted parents → IsSubtype parents t u → is_subtype parents t u ≡ true
is_subtype-complete parents t u r s = elim (above s) [
  | inl e ↦ meets-ancestor parents (length parents + 1) (length parents + 1) t u (omega arith) (r t ∙ sym e)
  | inr a ↦ elim (cases_lt (length parents + 1) a.steps) [
    | inl lt ↦
        let stays = ancestor-stays parents (length parents + 1) a.steps t (omega (arith, lt)) (r t) in
        meets-ancestor parents (length parents + 1) (length parents + 1) t u (omega arith) (r t ∙ sym stays ∙ a.leads)
    | inr le ↦ meets-ancestor parents a.steps (length parents + 1) t u le a.leads
  ]
]

-- the test's answer, by a test that decides the relation
pub is_subtype-decided : (parents : List ℕ) (t u : ℕ) (b : Bool) → IsRooted parents
    → (b ≡ true → IsSubtype parents t u) → (IsSubtype parents t u → b ≡ true) → b ≡ is_subtype parents t u
is_subtype-decided parents t u true r down up = sym (is_subtype-complete parents t u r (down refl))
is_subtype-decided parents t u false r down up = decided (is_subtype parents t u) refl where
  decided : (answer : Bool) → is_subtype parents t u ≡ answer → false ≡ answer
  decided true e = up (is_subtype-sound parents t u e)
  decided false e = refl
