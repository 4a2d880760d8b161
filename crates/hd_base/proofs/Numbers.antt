-- Numbers.
use Rattle.std.proofs.Common.{◌≡◌, ℕ, suc, nat_lt, inl, inr, sym, ◌∙◌, subst, arith, min}
use Rattle.std.proofs.lemmas.Bool.{cases_lt, lt-ltb, le-ltb}

pub nat_lt-suc : (a b : ℕ) → nat_lt (suc a) (suc b) ≡ nat_lt a b
nat_lt-suc a b =
    elim (cases_lt a b) [
      | inl lt ↦ lt-ltb (suc a) (suc b) (omega arith) ∙ sym (lt-ltb a b lt)
      | inr le ↦ le-ltb (suc a) (suc b) (omega arith) ∙ sym (le-ltb a b le)
    ]

-- what holds of two numbers holds of the lesser
pub min_both : (P : ℕ → Type 0) (a b : ℕ) → P a → P b → P (min a b)
min_both P a b pa pb =
    elim (cases_lt b a) [
      | inl h ↦ subst P (let k : b ≡ min a b = omega arith in k) pb
      | inr h ↦ subst P (let k : a ≡ min a b = omega arith in k) pa
    ]
