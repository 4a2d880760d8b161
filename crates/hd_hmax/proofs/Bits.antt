-- Bits of words.
use Rattle.std.proofs.Common.{◌≡◌, ℕ, ◌-◌, ◌<◌, ◌^◌, ◌==◌, Bool, true, false, not, ◌||◌, ◌&&◌, max, min, refl, sym, ap, ◌∙◌, arith}
use Rattle.std.specs.Prelude.{bit_or, bit_and, ◌/◌}
use Rattle.std.specs.Int.{w64, bit_at, bit_not}
use Rattle.std.proofs.lemmas.Bool.{true≢false, eq-eqb, ne_eqb}
use Rattle.std.proofs.lemmas.Bool.Decides.{nat_tests}
use Rattle.std.proofs.lemmas.Nat.{and_le_l}
use Rattle.std.proofs.lemmas.Nat.Bits.{bit_at_or, bit_at_and, bit_at_not, bit_at_ones, bit_at-zero, bit_at-lt, shr_and_one}
use Rattle.hd_hmax.specs.Lanes.{bit}

max_one : (a b : ℕ) → a < 2 → b < 2 → (max a b == 1) ≡ (a == 1 || b == 1)
max_one a b ha hb = grind (arith, nat_tests)

min_one : (a b : ℕ) → a < 2 → b < 2 → (min a b == 1) ≡ (a == 1 && b == 1)
min_one a b ha hb = grind (arith, nat_tests)

one_less : (b : ℕ) → b < 2 → (1 - b == 1) ≡ not (b == 1)
one_less b h = grind (arith, nat_tests)

pub bit-or : (a b j : ℕ) → bit (bit_or a b) j ≡ (bit a j || bit b j)
unfolding bit
bit-or a b j = ap (λ (x : ℕ). x == 1) (bit_at_or a b j) ∙ max_one (bit_at a j) (bit_at b j) (bit_at-lt a j) (bit_at-lt b j)

pub bit-and : (a b j : ℕ) → bit (bit_and a b) j ≡ (bit a j && bit b j)
unfolding bit
bit-and a b j = ap (λ (x : ℕ). x == 1) (bit_at_and a b j) ∙ min_one (bit_at a j) (bit_at b j) (bit_at-lt a j) (bit_at-lt b j)

pub bit-not : (n j : ℕ) → n < 2 ^ 64 → j < 64 → bit (bit_not w64 n) j ≡ not (bit n j)
unfolding bit
bit-not n j fits h = ap (λ (x : ℕ). x == 1) (bit_at_not w64 n j fits h) ∙ one_less (bit_at n j) (bit_at-lt n j)

pub bit-ones : (j : ℕ) → j < 64 → bit 18446744073709551615 j ≡ true
unfolding bit
bit-ones j h = eq-eqb (bit_at 18446744073709551615 j) 1 (bit_at_ones 64 j h)

-- what stays open
pub bit-left : (o a j : ℕ) → o < 2 ^ 64 → j < 64 → bit (bit_and o (bit_not w64 (bit_and o a))) j ≡ (bit o j && not (bit o j && bit a j))
bit-left o a j fits h =
    let low = and_le_l o a in
    bit-and o (bit_not w64 (bit_and o a)) j
    ∙ ap (λ b. bit o j && b) (bit-not (bit_and o a) j (omega (arith, low, fits)) h ∙ ap not (bit-and o a j))

pub bit-test : (w j : ℕ) → bit_and (w / 2 ^ j) 1 ≡ 1 → bit w j ≡ true
unfolding bit
bit-test w j e = eq-eqb (bit_at w j) 1 (sym (shr_and_one w j) ∙ e)

pub bit-test_fails : (w j : ℕ) → (bit_and (w / 2 ^ j) 1 ≡ 1 → ⊥) → bit w j ≡ false
unfolding bit
bit-test_fails w j ne = ne_eqb (bit_at w j) 1 (λ e. ne (shr_and_one w j ∙ e))

pub bit-zero : (j : ℕ) → bit 0 j ≡ false
unfolding bit
bit-zero j = ap (λ (x : ℕ). x == 1) (bit_at-zero j)

needs_none : (a b : Bool) → (a && not b) ≡ false → a ≡ true → b ≡ true
needs_none true true e h = refl
needs_none true false e h = absurd (true≢false e)
needs_none false b e h = absurd (true≢false (sym h))

-- where no lane has one word's bit and lacks another's
pub none_lacks : (lanes has j : ℕ) → j < 64 → has < 2 ^ 64 → bit_and lanes (bit_not w64 has) ≡ 0 → bit lanes j ≡ true → bit has j ≡ true
none_lacks lanes has j h fits none is =
    needs_none (bit lanes j) (bit has j)
    (ap (λ b. bit lanes j && b) (sym (bit-not has j fits h)) ∙ (sym (bit-and lanes (bit_not w64 has) j) ∙ (ap (λ x. bit x j) none ∙ bit-zero j))) is
