-- Bits in words.
use Rattle.std.proofs.Common.{◌≡◌, ◌≢◌, ℕ, ◌+◌, ◌*◌, ◌<◌, ◌/◌, ◌%◌, ◌==◌, ◌^◌, Bool, true, false, List, [], ◌∷◌, ◌++◌, length, get_or, set, inl, inr, sym, ap, ap₂, ◌∙◌, arith, get_or-set_same, get_or-set_other}
use Rattle.std.specs.Prelude.{bit_or, bit_and}
use Rattle.std.specs.Int.{w64, bit_at, bit_not}
use Rattle.std.proofs.lemmas.Bool.{cases_eq}
use Rattle.std.proofs.lemmas.Nat.Bits.{shr_and_one, bit_at_set_same, bit_at_set_other, bit_at_clear_same, bit_at_clear_other}
use Rattle.std.proofs.lemmas.List.{length-set, get_or_append_left}
use Rattle.std.proofs.lemmas.List.FromFn.{fill_by_all, map-range_with_len_more, get_or-map-range_with_len, length-map-range_with_len}
use Rattle.hd_tables.specs.Bits.{bits_in}
use Rattle.hd_base.specs.Bits.{bit_in}

pub bit_read : (words : List ℕ) (n i : ℕ) (d : Bool) → i < n → (bit_and (get_or words (i / 64) 0 / 2 ^ (i % 64)) 1 == 1) ≡ get_or (bits_in words n) i d
unfolding bit_in
bit_read words n i d lt =
    ap (λ (b : ℕ). b == 1) (shr_and_one (get_or words (i / 64) 0) (i % 64))
    ∙ sym (get_or-map-range_with_len (bit_in words) 0 n i i d lt (omega arith))

-- bits that are the same one by one
pub bits_same : (words others : List ℕ) (n : ℕ) → ((i : ℕ) → i < n → bit_in others i ≡ bit_in words i) → bits_in others n ≡ bits_in words n
bits_same words others n h =
    sym (fill_by_all (bit_in others) (bits_in words n) n true (length-map-range_with_len (bit_in words) 0 n)
    (λ i lt. get_or-map-range_with_len (bit_in words) 0 n i i true lt (omega arith) ∙ sym (h i lt)))

-- a bit more
pub bits_pushed : (words others : List ℕ) (n : ℕ) (b : Bool) → ((i : ℕ) → i < n → bit_in others i ≡ bit_in words i) → bit_in others n ≡ b
    → bits_in others (n + 1) ≡ bits_in words n ++ b ∷ []
bits_pushed words others n b h is =
    map-range_with_len_more (bit_in others) 0 n n (omega arith)
    ∙ ap₂ (λ (xs : List Bool) (x : Bool). xs ++ x ∷ []) (bits_same words others n h) is

-- a bit that is written
pub bits_put : (words others : List ℕ) (n k : ℕ) (b : Bool) → k < n → bit_in others k ≡ b → ((i : ℕ) → i ≢ k → bit_in others i ≡ bit_in words i)
    → bits_in others n ≡ set (bits_in words n) k b
bits_put words others n k b lt is h =
    sym (fill_by_all (bit_in others) (set (bits_in words n) k b) n true (length-set (bits_in words n) k b ∙ length-map-range_with_len (bit_in words) 0 n)
    (λ i li. elim (cases_eq i k) [
      | inl same ↦
          ap (λ (j : ℕ). get_or (set (bits_in words n) k b) j true) same
          ∙ (get_or-set_same (bits_in words n) k b true (let e = length-map-range_with_len (bit_in words) 0 n in omega (arith, e, lt))
          ∙ (sym is ∙ ap (bit_in others) (sym same)))
      | inr other ↦
          get_or-set_other (bits_in words n) k i b true other
          ∙ (get_or-map-range_with_len (bit_in words) 0 n i i true li (omega arith) ∙ sym (h i other))
    ]))

-- a word more leaves the bits of those before
pub bit_below : (words : List ℕ) (w i : ℕ) → i < 64 * length words → bit_in (words ++ w ∷ []) i ≡ bit_in words i
unfolding bit_in
bit_below words w i lt = ap (λ (v : ℕ). bit_at v (i % 64) == 1) (get_or_append_left words (w ∷ []) 0 (i / 64) (omega (arith, lt)))

-- a word that differs in one bit
written_bit : (words : List ℕ) (k w b : ℕ) → k / 64 < length words → bit_at w (k % 64) ≡ b → bit_in (set words (k / 64) w) k ≡ (b == 1)
unfolding bit_in
written_bit words k w b lt is =
    ap (λ (v : ℕ). bit_at v (k % 64) == 1) (get_or-set_same words (k / 64) w 0 lt) ∙ ap (λ (v : ℕ). v == 1) is

other_bit : (words : List ℕ) (k w : ℕ) → k / 64 < length words → ((i : ℕ) → i < 64 → i ≢ k % 64 → bit_at w i ≡ bit_at (get_or words (k / 64) 0) i)
    → (i : ℕ) → i ≢ k → bit_in (set words (k / 64) w) i ≡ bit_in words i
unfolding bit_in
other_bit words k w lt h i ne =
    elim (cases_eq (i / 64) (k / 64)) [
      | inl same ↦
          let differs : i % 64 ≢ k % 64 = λ e. ne (omega (arith, e, same)) in
          let v = h (i % 64) (omega arith) differs in
          ap (λ (j : ℕ). bit_at (get_or (set words (k / 64) w) j 0) (i % 64) == 1) same
          ∙ (ap (λ (u : ℕ). bit_at u (i % 64) == 1) (get_or-set_same words (k / 64) w 0 lt)
          ∙ (ap (λ (u : ℕ). u == 1) v
          ∙ ap (λ (j : ℕ). bit_at (get_or words j 0) (i % 64) == 1) (sym same)))
      | inr other ↦ ap (λ (u : ℕ). bit_at u (i % 64) == 1) (get_or-set_other words (k / 64) (i / 64) w 0 other)
    ]

pub bit_set_same : (words : List ℕ) (k : ℕ) → k / 64 < length words
    → bit_in (set words (k / 64) (bit_or (get_or words (k / 64) 0) (1 * 2 ^ (k % 64) % 2 ^ 64))) k ≡ true
bit_set_same words k lt =
    written_bit words k _ 1 lt (bit_at_set_same w64 (get_or words (k / 64) 0) (k % 64) (omega arith))

pub bit_set_other : (words : List ℕ) (k : ℕ) → k / 64 < length words → (i : ℕ) → i ≢ k
    → bit_in (set words (k / 64) (bit_or (get_or words (k / 64) 0) (1 * 2 ^ (k % 64) % 2 ^ 64))) i ≡ bit_in words i
bit_set_other words k lt =
    other_bit words k _ lt (λ i _ ne. bit_at_set_other w64 (get_or words (k / 64) 0) (k % 64) (omega arith) i ne)

pub bit_clear_same : (words : List ℕ) (k : ℕ) → k / 64 < length words
    → bit_in (set words (k / 64) (bit_and (get_or words (k / 64) 0) (bit_not w64 (1 * 2 ^ (k % 64) % 2 ^ 64)))) k ≡ false
bit_clear_same words k lt =
    written_bit words k _ 0 lt (bit_at_clear_same w64 (get_or words (k / 64) 0) (k % 64) (omega arith))

pub bit_clear_other : (words : List ℕ) (k : ℕ) → k / 64 < length words → (i : ℕ) → i ≢ k
    → bit_in (set words (k / 64) (bit_and (get_or words (k / 64) 0) (bit_not w64 (1 * 2 ^ (k % 64) % 2 ^ 64)))) i ≡ bit_in words i
bit_clear_other words k lt =
    other_bit words k _ lt (λ i li ne. bit_at_clear_other w64 (get_or words (k / 64) 0) (k % 64) (omega arith) i li ne)
