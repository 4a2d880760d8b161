-- The order of a queue's entries.
use Rattle.std.proofs.Common.{◌≡◌, ℕ, ◌<◌, ◌≤◌, true, false, Some, sym, ap, subst, inl, inr, arith}
use Rattle.std.specs.Ordering.{nat_cmp, ordering_then, is_eq, is_gt}
use Rattle.std.specs.declared.cmp.Ordering.{Ordering}
use Rattle.std.specs.declared.cmp.Ordering.TheVariants.{Less, Equal, Greater}
use Rattle.std.specs.Cmp.{nat_cmp_is}
use Rattle.std.proofs.lemmas.Bool.{cases_order, lt-ltb}
use Rattle.hd_open.specs.Totals.{IsNotAfter}
use Rattle.hd_open.specs.Queue.{entry_cmp}

nat_cmp_less : (a b : ℕ) → a < b → nat_cmp a b ≡ Less
nat_cmp_less a b h = sym (nat_cmp_is a b Less h)

nat_cmp_equal : (a b : ℕ) → a ≡ b → nat_cmp a b ≡ Equal
nat_cmp_equal a b h = sym (nat_cmp_is a b Equal h)

nat_cmp_greater : (a b : ℕ) → b < a → nat_cmp a b ≡ Greater
nat_cmp_greater a b h = sym (nat_cmp_is a b Greater h)

pub nat_cmp_not_greater : (a b : ℕ) → is_gt (nat_cmp a b) ≡ false → a ≤ b
nat_cmp_not_greater a b lacks =
    elim (cases_order a b) [
      | inl same ↦ omega arith
      | inr other ↦ elim other [
        | inl less ↦ omega arith
        | inr more ↦ (let is : is_gt Greater ≡ false = subst (λ (o : Ordering). is_gt o ≡ false) (nat_cmp_greater a b more) lacks in absurd (cc))
      ]
    ]

pub nat_cmp_same : (a b : ℕ) → is_eq (nat_cmp a b) ≡ true → a ≡ b
nat_cmp_same a b held =
    elim (cases_order a b) [
      | inl same ↦ same
      | inr other ↦ elim other [
        | inl less ↦ (let is : is_eq Less ≡ true = subst (λ (o : Ordering). is_eq o ≡ true) (nat_cmp_less a b less) held in absurd (cc))
        | inr more ↦ (let is : is_eq Greater ≡ true = subst (λ (o : Ordering). is_eq o ≡ true) (nat_cmp_greater a b more) held in absurd (cc))
      ]
    ]

pub entry_cmp_not_greater : (t a u b : ℕ) → is_gt (entry_cmp (t, a) (u, b)) ≡ false → IsNotAfter (Some t) a (Some u) b
entry_cmp_not_greater t a u b lacks =
    elim (cases_order t u) [
      | inl same ↦ (let is : is_gt (nat_cmp a b) ≡ false = subst (λ (o : Ordering). is_gt (ordering_then o (nat_cmp a b)) ≡ false) (nat_cmp_equal t u same) lacks in inr (ap Some same, nat_cmp_not_greater a b is))
      | inr other ↦ elim other [
        | inl less ↦ inl (lt-ltb t u less)
        | inr more ↦ (let is : is_gt Greater ≡ false = subst (λ (o : Ordering). is_gt (ordering_then o (nat_cmp a b)) ≡ false) (nat_cmp_greater t u more) lacks in absurd (cc))
      ]
    ]

pub entry_cmp_same : (t a u b : ℕ) → is_eq (entry_cmp (t, a) (u, b)) ≡ true → (t ≡ u) × (a ≡ b)
entry_cmp_same t a u b held =
    elim (cases_order t u) [
      | inl same ↦ (let is : is_eq (nat_cmp a b) ≡ true = subst (λ (o : Ordering). is_eq (ordering_then o (nat_cmp a b)) ≡ true) (nat_cmp_equal t u same) held in (same, nat_cmp_same a b is))
      | inr other ↦ elim other [
        | inl less ↦ (let is : is_eq Less ≡ true = subst (λ (o : Ordering). is_eq (ordering_then o (nat_cmp a b)) ≡ true) (nat_cmp_less t u less) held in absurd (cc))
        | inr more ↦ (let is : is_eq Greater ≡ true = subst (λ (o : Ordering). is_eq (ordering_then o (nat_cmp a b)) ≡ true) (nat_cmp_greater t u more) held in absurd (cc))
      ]
    ]
