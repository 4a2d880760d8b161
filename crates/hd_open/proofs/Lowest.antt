-- Numbers without their lowest one bits.
use Rattle.std.proofs.Common.{◌≡◌, ◌⊎◌, ℕ, zero, suc, ◌+◌, ◌-◌, ◌*◌, ◌/◌, ◌%◌, ◌<◌, ◌≤◌, bit_and, bit_or, min, max, refl, sym, ap, ◌∙◌, subst, inl, inr, arith}
use Rattle.std.specs.Int.{bit_at}
use Rattle.std.proofs.lemmas.Bool.{cases_lt}
use Rattle.std.proofs.lemmas.Nat.Bits.{bit_at_lowest, bit_at-suc, bit_at_and, bit_at_or, same_from_bits}
use Rattle.hd_open.specs.Counts.{start_of}

-- ---- the bits of an even number, and of an odd one

and_halves : (a b i : ℕ) → bit_at (bit_and a b) (suc i) ≡ bit_at (bit_and (a / 2) (b / 2)) i
and_halves a b i =
    bit_at_and a b (suc i)
    ∙ (ap (λ (x : ℕ). min x (bit_at b (suc i))) (bit_at-suc a i)
    ∙ (ap (λ (x : ℕ). min (bit_at (a / 2) i) x) (bit_at-suc b i) ∙ sym (bit_at_and (a / 2) (b / 2) i)))

and_lowest : (a b : ℕ) → bit_at (bit_and a b) 0 ≡ min (a % 2) (b % 2)
and_lowest a b =
    bit_at_and a b 0 ∙ (ap (λ (x : ℕ). min x (bit_at b 0)) (bit_at_lowest a) ∙ ap (λ (x : ℕ). min (a % 2) x) (bit_at_lowest b))

and_same : (a i : ℕ) → bit_at (bit_and a a) i ≡ bit_at a i
and_same a i = bit_at_and a a i ∙ same (bit_at a i)
  where
    same : (x : ℕ) → min x x ≡ x
    same x = omega arith

pub start_of_even : (k : ℕ) → start_of (2 * k) ≡ 2 * start_of k
start_of_even k = same_from_bits (start_of (2 * k)) (2 * start_of k) bits
  where
    half : (2 * k) / 2 ≡ k
    half = omega arith

    half_less : (2 * k - 1) / 2 ≡ k - 1
    half_less = omega arith

    double : (2 * start_of k) / 2 ≡ start_of k
    double = omega arith

    bits : (i : ℕ) → bit_at (start_of (2 * k)) i ≡ bit_at (2 * start_of k) i
    bits zero =
        let a = and_lowest (2 * k) (2 * k - 1) in
        let b = bit_at_lowest (2 * start_of k) in
        omega arith
    bits (suc i) =
        and_halves (2 * k) (2 * k - 1) i
        ∙ (ap (λ (x : ℕ). bit_at (bit_and x ((2 * k - 1) / 2)) i) half
        ∙ (ap (λ (x : ℕ). bit_at (bit_and k x) i) half_less
        ∙ (ap (λ (x : ℕ). bit_at x i) (sym double) ∙ sym (bit_at-suc (2 * start_of k) i))))

pub start_of_odd : (k : ℕ) → start_of (2 * k + 1) ≡ 2 * k
start_of_odd k = same_from_bits (start_of (2 * k + 1)) (2 * k) bits
  where
    half : (2 * k + 1) / 2 ≡ k
    half = omega arith

    half_less : (2 * k + 1 - 1) / 2 ≡ k
    half_less = omega arith

    double : (2 * k) / 2 ≡ k
    double = omega arith

    bits : (i : ℕ) → bit_at (start_of (2 * k + 1)) i ≡ bit_at (2 * k) i
    bits zero =
        let a = and_lowest (2 * k + 1) (2 * k + 1 - 1) in
        let b = bit_at_lowest (2 * k) in
        omega arith
    bits (suc i) =
        and_halves (2 * k + 1) (2 * k + 1 - 1) i
        ∙ (ap (λ (x : ℕ). bit_at (bit_and x ((2 * k + 1 - 1) / 2)) i) half
        ∙ (ap (λ (x : ℕ). bit_at (bit_and k x) i) half_less
        ∙ (and_same k i ∙ (ap (λ (x : ℕ). bit_at x i) (sym double) ∙ sym (bit_at-suc (2 * k) i)))))

even_or_odd : (n : ℕ) → (n ≡ 2 * (n / 2)) ⊎ (n ≡ 2 * (n / 2) + 1)
even_or_odd n =
    elim (cases_lt (2 * (n / 2)) n) [
      | inl lt ↦ inr (omega arith)
      | inr le ↦ inl (omega arith)
    ]

even : (n : ℕ) → n ≡ 2 * (n / 2) → start_of n ≡ 2 * start_of (n / 2)
even n is = ap start_of is ∙ start_of_even (n / 2)

odd : (n : ℕ) → n ≡ 2 * (n / 2) + 1 → start_of n ≡ 2 * (n / 2)
odd n is = ap start_of is ∙ start_of_odd (n / 2)

-- ---- it is less

less_by : (most n : ℕ) → n ≤ most → 0 < n → start_of n < n
less_by zero n le some_there = absurd (omega arith)
less_by (suc most) n le some_there =
    elim (even_or_odd n) [
      | inl is ↦ (let s = even n is in let rest = less_by most (n / 2) (omega arith) (omega arith) in omega arith)
      | inr is ↦ (let s = odd n is in omega arith)
    ]

pub start_less : (n : ℕ) → 0 < n → start_of n < n
start_less n some_there = less_by n n (le n) some_there
  where
    le : (m : ℕ) → m ≤ m
    le m = omega arith

-- ---- the next number with the same start or an earlier one

skipped_by : (most i j : ℕ) → i ≤ most → i < j → j + start_of i < i + i → i ≤ start_of j
skipped_by zero i j le behind near = absurd (omega arith)
skipped_by (suc most) i j le behind near =
    elim (even_or_odd i) [
      | inl is ↦ elim (even_or_odd j) [
        | inl js ↦ (let s = even i is in
            let t = even j js in
            let rest = skipped_by most (i / 2) (j / 2) (omega arith) (omega arith) (omega arith) in
            omega arith)
        | inr js ↦ (let t = odd j js in omega arith)
      ]
      | inr is ↦ (let s = odd i is in absurd (omega arith))
    ]

-- what comes before it starts no earlier than this number
pub skipped : (i j : ℕ) → i < j → j < i + (i - start_of i) → i ≤ start_of j
skipped i j behind near = skipped_by i i j (omega arith) behind (omega arith)

next_by : (most i : ℕ) → i ≤ most → 0 < i → start_of (i + (i - start_of i)) ≤ start_of i
next_by zero i le some_there = absurd (omega arith)
next_by (suc most) i le some_there =
    elim (even_or_odd i) [
      | inl is ↦ (let s = even i is in
          let rest = next_by most (i / 2) (omega arith) (omega arith) in
          let twice : i + (i - start_of i) ≡ 2 * (i / 2 + (i / 2 - start_of (i / 2))) = omega arith in
          let t : start_of (i + (i - start_of i)) ≡ 2 * start_of (i / 2 + (i / 2 - start_of (i / 2))) =
          ap start_of twice ∙ start_of_even (i / 2 + (i / 2 - start_of (i / 2))) in
          omega arith)
      | inr is ↦ (let s = odd i is in
          let twice : i + (i - start_of i) ≡ 2 * (i / 2 + 1) = omega arith in
          let t : start_of (i + (i - start_of i)) ≡ 2 * start_of (i / 2 + 1) = ap start_of twice ∙ start_of_even (i / 2 + 1) in
          let less = start_less (i / 2 + 1) (omega arith) in
          omega arith)
    ]

pub next_start : (i : ℕ) → 0 < i → start_of (i + (i - start_of i)) ≤ start_of i
next_start i some_there = next_by i i (le i) some_there
  where
    le : (m : ℕ) → m ≤ m
    le m = omega arith

-- ---- the next part, counted from 0

or_halves : (a b i : ℕ) → bit_at (bit_or a b) (suc i) ≡ bit_at (bit_or (a / 2) (b / 2)) i
or_halves a b i =
    bit_at_or a b (suc i)
    ∙ (ap (λ (x : ℕ). max x (bit_at b (suc i))) (bit_at-suc a i)
    ∙ (ap (λ (x : ℕ). max (bit_at (a / 2) i) x) (bit_at-suc b i) ∙ sym (bit_at_or (a / 2) (b / 2) i)))

or_lowest : (a b : ℕ) → bit_at (bit_or a b) 0 ≡ max (a % 2) (b % 2)
or_lowest a b =
    bit_at_or a b 0 ∙ (ap (λ (x : ℕ). max x (bit_at b 0)) (bit_at_lowest a) ∙ ap (λ (x : ℕ). max (a % 2) x) (bit_at_lowest b))

or_step : (a b : ℕ) → bit_or a b ≡ 2 * bit_or (a / 2) (b / 2) + max (a % 2) (b % 2)
or_step a b = same_from_bits (bit_or a b) (2 * bit_or (a / 2) (b / 2) + max (a % 2) (b % 2)) bits
  where
    half : (2 * bit_or (a / 2) (b / 2) + max (a % 2) (b % 2)) / 2 ≡ bit_or (a / 2) (b / 2)
    half = omega arith

    bits : (i : ℕ) → bit_at (bit_or a b) i ≡ bit_at (2 * bit_or (a / 2) (b / 2) + max (a % 2) (b % 2)) i
    bits zero =
        let one = or_lowest a b in
        let other = bit_at_lowest (2 * bit_or (a / 2) (b / 2) + max (a % 2) (b % 2)) in
        omega arith
    bits (suc i) =
        or_halves a b i
        ∙ (ap (λ (x : ℕ). bit_at x i) (sym half) ∙ sym (bit_at-suc (2 * bit_or (a / 2) (b / 2) + max (a % 2) (b % 2)) i))

or_same : (a : ℕ) → bit_or a a ≡ a
or_same a = same_from_bits (bit_or a a) a (λ i. bit_at_or a a i ∙ same (bit_at a i))
  where
    same : (x : ℕ) → max x x ≡ x
    same x = omega arith

next_or_by : (most at : ℕ) → at ≤ most → bit_or at (at + 1) + 1 ≡ at + 1 + (at + 1 - start_of (at + 1))
next_or_by zero at le =
    let none : at ≡ 0 = omega arith in
    subst (λ (n : ℕ). bit_or n (n + 1) + 1 ≡ n + 1 + (n + 1 - start_of (n + 1))) (sym none) refl
next_or_by (suc most) at le =
    elim (even_or_odd at) [
      | inl is ↦ (let same : (at + 1) / 2 ≡ at / 2 = omega arith in
          let step = or_step at (at + 1) in
          let halves : bit_or (at / 2) ((at + 1) / 2) ≡ at / 2 = ap (bit_or (at / 2)) same ∙ or_same (at / 2) in
          let start : start_of (at + 1) ≡ 2 * ((at + 1) / 2) = odd (at + 1) (omega arith) in
          omega arith)
      | inr is ↦ (let same : (at + 1) / 2 ≡ at / 2 + 1 = omega arith in
          let step = or_step at (at + 1) in
          let halves : bit_or (at / 2) ((at + 1) / 2) ≡ bit_or (at / 2) (at / 2 + 1) = ap (bit_or (at / 2)) same in
          let start : start_of (at + 1) ≡ 2 * start_of ((at + 1) / 2) = even (at + 1) (omega arith) in
          let start_half : start_of ((at + 1) / 2) ≡ start_of (at / 2 + 1) = ap start_of same in
          let rest = next_or_by most (at / 2) (omega arith) in
          let less = start_less (at / 2 + 1) (omega arith) in
          omega arith)
    ]

pub next_or : (at : ℕ) → bit_or at (at + 1) + 1 ≡ at + 1 + (at + 1 - start_of (at + 1))
next_or at = next_or_by at at (le at)
  where
    le : (m : ℕ) → m ≤ m
    le m = omega arith
