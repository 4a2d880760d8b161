-- Marks by the bits of words.
use Rattle.std.proofs.Common.{◌≡◌, ℕ, ◌+◌, ◌*◌, ◌-◌, ◌<◌, ◌≤◌, ◌/◌, ◌%◌, ◌==◌, ◌^◌, ◌||◌, false, List, [], ◌∷◌, length, get_or, set, replicate, inl, inr, refl, sym, ap, ap₂, ◌∙◌, subst, arith, get_or-set_same, get_or-set_other}
use Rattle.std.specs.Prelude.{Option, Some, None, bit_or}
use Rattle.std.specs.Int.{w64, bit_at, trailing_zeros}
use Rattle.std.proofs.lemmas.Bool.{cases_eq, cases_lt, eq-eqb, ne_eqb}
use Rattle.std.proofs.lemmas.Nat.{shr-shr, shr_le}
use Rattle.std.proofs.lemmas.Nat.Bits.{bit_at-zero, bit_at_set_same, bit_at_set_other, bit_at-trailing_zeros, bit_at_above}
use Rattle.std.proofs.lemmas.List.{get_or_past}
use Rattle.hd_base.proofs.Lists.{get_or-replicate_same}
use Rattle.hd_successors.specs.Marks.{IsFirstMark, FirstMark}
use Rattle.hd_base.specs.Bits.{bit_in}

pub none_marked : (words : List ℕ) (n i : ℕ) → words ≡ replicate n 0 → bit_in words i ≡ false
unfolding bit_in
none_marked words n i e =
    ap (λ b. b == 1) (ap (λ w. bit_at w (i % 64)) (ap (λ ws. get_or ws (i / 64) 0) e ∙ get_or-replicate_same n (i / 64) 0) ∙ bit_at-zero (i % 64))

-- a bit that is set in a word marks its number, and leaves the other marks
pub marked_more : (words : List ℕ) (n i : ℕ) → n / 64 < length words
    → bit_in (set words (n / 64) (bit_or (get_or words (n / 64) 0) (1 * 2 ^ (n % 64) % 2 ^ 64))) i ≡ ((i == n) || bit_in words i)
unfolding bit_in
marked_more words n i lt =
    let word = bit_or (get_or words (n / 64) 0) (1 * 2 ^ (n % 64) % 2 ^ 64) in
    let fits : n % 64 < 64 = omega arith in
    elim (cases_eq (i / 64) (n / 64)) [
      | inl same ↦
          let read : get_or (set words (n / 64) word) (i / 64) 0 ≡ word = ap (λ k. get_or (set words (n / 64) word) k 0) same ∙ get_or-set_same words (n / 64) word 0 lt in
          elim (cases_eq (i % 64) (n % 64)) [
            | inl bit ↦
                let is : i ≡ n = omega arith in
                ap (λ b. b == 1) (ap₂ bit_at read bit ∙ bit_at_set_same w64 (get_or words (n / 64) 0) (n % 64) fits)
                ∙ sym (ap (λ b. b || (bit_at (get_or words (i / 64) 0) (i % 64) == 1)) (eq-eqb i n is))
            | inr other ↦
                let differs : i ≡ n → ⊥ = λ is. other (ap (λ k. k % 64) is) in
                ap (λ b. b == 1)
                (ap (λ w. bit_at w (i % 64)) read
                ∙ (bit_at_set_other w64 (get_or words (n / 64) 0) (n % 64) fits (i % 64) other
                ∙ ap (λ k. bit_at (get_or words k 0) (i % 64)) (sym same)))
                ∙ sym (ap (λ b. b || (bit_at (get_or words (i / 64) 0) (i % 64) == 1)) (ne_eqb i n differs))
          ]
      | inr other ↦
          let differs : i ≡ n → ⊥ = λ is. other (ap (λ k. k / 64) is) in
          ap (λ w. bit_at w (i % 64) == 1) (get_or-set_other words (n / 64) (i / 64) word 0 other)
          ∙ sym (ap (λ b. b || (bit_at (get_or words (i / 64) 0) (i % 64) == 1)) (ne_eqb i n differs))
    ]

-- a bit of a word decides the mark
bit_marks : (words : List ℕ) (m w : ℕ) (b : ℕ) → get_or words (m / 64) 0 ≡ w → bit_at w (m % 64) ≡ b → bit_in words m ≡ (b == 1)
unfolding bit_in
bit_marks words m w b ew eb = ap (λ k. k == 1) (ap (λ v. bit_at v (m % 64)) ew ∙ eb)

shifted_bit : (n k i : ℕ) → bit_at (n / 2 ^ k) i ≡ bit_at n (k + i)
shifted_bit n k i = ap (λ m. m % 2) (shr-shr n k i)

-- the lowest bit of a word, from a bit on
pub first_in_word : (words : List ℕ) (from w : ℕ) → get_or words (from / 64) 0 ≡ w → w < 2 ^ 64 → 0 < w / 2 ^ (from % 64)
    → IsFirstMark words from (from + trailing_zeros w64 (w / 2 ^ (from % 64)))
first_in_word words from w is fits some =
    let part = w / 2 ^ (from % 64) in
    let low = bit_at-trailing_zeros w64 part some (let k = shr_le w (from % 64) in omega (arith, k, fits)) in
    let z = trailing_zeros w64 part in
    let bit : bit_at w (from % 64 + z) ≡ 1 = sym (shifted_bit w (from % 64) z) ∙ low.1 in
    let inside : from % 64 + z < 64 =
    elim (cases_lt (from % 64 + z) 64) [
      | inl lt ↦ lt
      | inr le ↦ absurd (let none : 1 ≡ 0 = sym bit ∙ bit_at_above w 64 (from % 64 + z) fits le in omega (arith, none))
    ] in
    let at : (i : ℕ) → from % 64 + i < 64 → bit_in words (from + i) ≡ (bit_at w (from % 64 + i) == 1) =
    λ i lt.
    let row : (from + i) / 64 ≡ from / 64 = omega (arith, lt) in
    let column : (from + i) % 64 ≡ from % 64 + i = omega (arith, lt) in
    bit_marks words (from + i) w (bit_at w (from % 64 + i)) (ap (λ k. get_or words k 0) row ∙ is) (ap (bit_at w) column) in
    record {
      is_marked_there = at z inside ∙ ap (λ b. b == 1) bit;
      from_there = omega arith;
      none_before = λ m le lt.
          let i = m - from in
          let sum : from + i ≡ m = omega (arith, le) in
          let below : i < z = omega (arith, le, lt) in
          sym (ap (bit_in words) sum)
          ∙ (at i (omega (arith, below, inside)) ∙ ap (λ b. b == 1) (sym (shifted_bit w (from % 64) i) ∙ low.2 i below));
    }

-- where no bit from there on is set, no number of the word is marked
pub none_in_word : (words : List ℕ) (from w m : ℕ) → get_or words (from / 64) 0 ≡ w → w / 2 ^ (from % 64) ≡ 0 → from ≤ m → m / 64 ≡ from / 64 → bit_in words m ≡ false
none_in_word words from w m is none le row =
    let i = m - from in
    let column : m % 64 ≡ from % 64 + i = omega (arith, le, row) in
    bit_marks words m w 0 (ap (λ k. get_or words k 0) row ∙ is)
    (ap (bit_at w) column ∙ (sym (shifted_bit w (from % 64) i) ∙ (ap (λ v. bit_at v i) none ∙ bit_at-zero i)))

-- beyond the words nothing is marked
pub none_past : (words : List ℕ) (m : ℕ) → length words ≤ m / 64 → bit_in words m ≡ false
none_past words m le = bit_marks words m 0 0 (get_or_past words (m / 64) 0 le) (bit_at-zero (m % 64))

-- ---- one word

pub first_alone : (byte w from n : ℕ) → w ≡ byte → from < 64 → w < 2 ^ 64 → 0 < w / 2 ^ from → n ≡ from + trailing_zeros w64 (w / 2 ^ from) → IsFirstMark (byte ∷ []) from n
first_alone byte w from n same lt fits some is =
    let column : from % 64 ≡ from = omega (arith, lt) in
    let row : from / 64 ≡ 0 = omega (arith, lt) in
    subst (IsFirstMark (byte ∷ []) from) (ap (λ k. from + trailing_zeros w64 (w / 2 ^ k)) column ∙ sym is)
    (first_in_word (byte ∷ []) from w (ap (λ k. get_or (byte ∷ []) k 0) row ∙ sym same) fits (subst (λ k. 0 < w / 2 ^ k) (sym column) some))

pub none_alone : (byte w from : ℕ) → w ≡ byte → from < 64 → w / 2 ^ from ≡ 0 → FirstMark (byte ∷ []) from None
none_alone byte w from same lt none =
    let column : from % 64 ≡ from = omega (arith, lt) in
    let row : from / 64 ≡ 0 = omega (arith, lt) in
    λ m far.
    elim (cases_lt (m / 64) 1) [
      | inl low ↦ none_in_word (byte ∷ []) from w m (ap (λ k. get_or (byte ∷ []) k 0) row ∙ sym same) (ap (λ k. w / 2 ^ k) column ∙ none) far (omega (arith, low, row))
      | inr high ↦ none_past (byte ∷ []) m high
    ]

-- ---- a search through the words

-- the lowest bit of a word is the first mark, where the words before have none
pub first_in_row : (words : List ℕ) (place at w : ℕ) → get_or words at 0 ≡ w → w < 2 ^ 64 → 0 < w → place ≤ at → ((m : ℕ) → 64 * place ≤ m → m < 64 * at → bit_in words m ≡ false)
    → IsFirstMark words (64 * place) (64 * at + trailing_zeros w64 w)
first_in_row words place at w is fits some le none =
    let row : 64 * at / 64 ≡ at = omega arith in
    let column : 64 * at % 64 ≡ 0 = omega arith in
    let whole : w / 2 ^ (64 * at % 64) ≡ w = ap (λ k. w / 2 ^ k) column ∙ omega arith in
    let first = subst (λ v. IsFirstMark words (64 * at) (64 * at + trailing_zeros w64 v)) whole (first_in_word words (64 * at) w (ap (λ k. get_or words k 0) row ∙ is) fits (omega (arith, some, whole))) in
    record {
      is_marked_there = first.is_marked_there;
      from_there = omega (arith, le);
      none_before = λ m far lt.
          elim (cases_lt m (64 * at)) [
            | inl low ↦ none m far low
            | inr high ↦ first.none_before m high lt
          ];
    }

pub none_in_row : (words : List ℕ) (at m : ℕ) → get_or words at 0 ≡ 0 → m / 64 ≡ at → bit_in words m ≡ false
none_in_row words at m is row = bit_marks words m 0 0 (ap (λ k. get_or words k 0) row ∙ is) (bit_at-zero (m % 64))

-- a word more without a mark
pub none_more : (words : List ℕ) (place at : ℕ) → get_or words at 0 ≡ 0 → ((m : ℕ) → 64 * place ≤ m → m < 64 * at → bit_in words m ≡ false)
    → (m : ℕ) → 64 * place ≤ m → m < 64 * (at + 1) → bit_in words m ≡ false
none_more words place at is none m far lt =
    elim (cases_lt m (64 * at)) [
      | inl low ↦ none m far low
      | inr high ↦ none_in_row words at m is (omega (arith, high, lt))
    ]

-- no word is left
pub none_left : (words : List ℕ) (place at : ℕ) → length words ≤ at → ((m : ℕ) → 64 * place ≤ m → m < 64 * at → bit_in words m ≡ false)
    → (m : ℕ) → 64 * place ≤ m → bit_in words m ≡ false
none_left words place at end none m far =
    elim (cases_lt m (64 * at)) [
      | inl low ↦ none m far low
      | inr high ↦ none_past words m (omega (arith, high, end))
    ]

-- the first mark after a word's part without marks
pub first_behind : (words : List ℕ) (from place : ℕ) (o : Option ℕ) → place ≡ from / 64 + 1 → get_or words (from / 64) 0 / 2 ^ (from % 64) ≡ 0 → FirstMark words (64 * place) o → FirstMark words from o
first_behind words from place None next none f =
    λ m far.
    elim (cases_lt m (64 * place)) [
      | inl low ↦ none_in_word words from (get_or words (from / 64) 0) m refl none far (omega (arith, next, low, far))
      | inr high ↦ f m high
    ]
first_behind words from place (Some n) next none f = record {
  is_marked_there = f.is_marked_there;
  from_there = let h = f.from_there in omega (arith, h, next);
  none_before = λ m far lt.
      elim (cases_lt m (64 * place)) [
        | inl low ↦ none_in_word words from (get_or words (from / 64) 0) m refl none far (omega (arith, next, low, far))
        | inr high ↦ f.none_before m high lt
      ];
}
