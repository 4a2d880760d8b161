-- Bits of slots.
use Rattle.std.proofs.Common.{◌≡◌, ◌≢◌, ◌↔◌, ℕ, Bool, true, false, zero, suc, ◌+◌, ◌-◌, ◌*◌, ◌/◌, ◌%◌, ◌^◌, ◌<◌, ◌≤◌, List, [], ◌∷◌, ◌++◌, Option, Some, None, length, get_or, set, slice_get, refl, sym, ap, ◌∙◌, subst, inl, inr, arith, length-append, length-set}
use Rattle.std.specs.Prelude.{count_ones, bit_or, bit_and}
use Rattle.std.specs.Int.{bit_at, bit_not, w64}
use Rattle.std.proofs.lemmas.Bool.{cases_order}
use Rattle.std.proofs.lemmas.Nat.{ones_cat, mod-pow-add, one_shl, and_mask, pow_pos}
use Rattle.std.proofs.lemmas.Nat.Bits.{bit_at-lt, bit_at_set_same, bit_at_set_other, bit_at_clear_same, bit_at_clear_other}
use Rattle.std.proofs.lemmas.List.{get_or-set_same, get_or-set_other}
use Rattle.std.proofs.lemmas.Grind.{get_or_default_zero}
use Rattle.hd_open.specs.Live.{nodes_before, HoldsNode}
use Rattle.hd_open.specs.Marks.{slot_bit, slot_mark, AreMarks}

-- ---- a word

-- a word whose bit of a slot is another one is put in its place
pub marked_here : (words : List ℕ) (at v d : ℕ) → at / 64 < length words → bit_at v (at % 64) ≡ d → slot_bit (set words (at / 64) v) at ≡ d
marked_here words at v d within is = ap (λ (w : ℕ). bit_at w (at % 64)) (get_or-set_same words (at / 64) v 0 within) ∙ is

pub marked_else :
    (words : List ℕ) (at v i : ℕ) → at / 64 < length words → i ≢ at
    → ((j : ℕ) → j < 64 → j ≢ at % 64 → bit_at v j ≡ bit_at (get_or words (at / 64) 0) j) → slot_bit (set words (at / 64) v) i ≡ slot_bit words i
marked_else words at v i within apart same =
    elim (cases_order (i / 64) (at / 64)) [
      | inl one ↦ subst (λ (g : ℕ). bit_at (get_or (set words (at / 64) v) g 0) (i % 64) ≡ bit_at (get_or words g 0) (i % 64)) (sym one)
          (ap (λ (w : ℕ). bit_at w (i % 64)) (get_or-set_same words (at / 64) v 0 within) ∙ same (i % 64) (omega arith) (λ e. apart (omega arith)))
      | inr other ↦ ap (λ (w : ℕ). bit_at w (i % 64))
          (get_or-set_other words (at / 64) (i / 64) v 0 (λ e. elim other [ inl lt ↦ omega arith | inr gt ↦ omega arith ]))
    ]

-- a bit is set, or taken away
pub mark_here :
    (words : List ℕ) (at w : ℕ) → at / 64 < length words → slot_bit (set words (at / 64) (bit_or w (1 * 2 ^ (at % 64) % 18446744073709551616))) at ≡ 1
mark_here words at w within = marked_here words at _ 1 within (bit_at_set_same w64 w (at % 64) (omega arith))

pub mark_else :
    (words : List ℕ) (at w : ℕ) → at / 64 < length words → w ≡ get_or words (at / 64) w → (i : ℕ) → i ≢ at
    → slot_bit (set words (at / 64) (bit_or w (1 * 2 ^ (at % 64) % 18446744073709551616))) i ≡ slot_bit words i
mark_else words at w within read i apart =
    marked_else words at _ i within apart (λ j lt other.
    bit_at_set_other w64 w (at % 64) (omega arith) j other ∙ ap (λ (v : ℕ). bit_at v j) (read ∙ get_or_default_zero words (at / 64) w within))

pub unmark_here :
    (words : List ℕ) (at w : ℕ) → at / 64 < length words
    → slot_bit (set words (at / 64) (bit_and w (bit_not w64 (1 * 2 ^ (at % 64) % 18446744073709551616)))) at ≡ 0
unmark_here words at w within = marked_here words at _ 0 within (bit_at_clear_same w64 w (at % 64) (omega arith))

pub unmark_else :
    (words : List ℕ) (at w : ℕ) → at / 64 < length words → w ≡ get_or words (at / 64) w → (i : ℕ) → i ≢ at
    → slot_bit (set words (at / 64) (bit_and w (bit_not w64 (1 * 2 ^ (at % 64) % 18446744073709551616)))) i ≡ slot_bit words i
unmark_else words at w within read i apart =
    marked_else words at _ i within apart (λ j lt other.
    bit_at_clear_other w64 w (at % 64) (omega arith) j lt other ∙ ap (λ (v : ℕ). bit_at v j) (read ∙ get_or_default_zero words (at / 64) w within))

-- a bit is as many as it says
ones_bit : (b : ℕ) → b < 2 → count_ones b ≡ b
unfolding lib.Count.ones
ones_bit zero lt = refl
ones_bit (suc zero) lt = refl
ones_bit (suc (suc b)) lt = absurd (omega arith)

-- a word more has no bits
word_more : (words : List ℕ) (g : ℕ) → get_or (words ++ 0 ∷ []) g 0 ≡ get_or words g 0
word_more [] zero = refl
word_more [] (suc g) = refl
word_more (w ∷ words) zero = refl
word_more (w ∷ words) (suc g) = word_more words g

-- the bits of a word that come before one, as they are counted
pub ones_before :
    (words : List ℕ) (at w : ℕ) → at / 64 < length words → w ≡ get_or words (at / 64) w
    → count_ones (bit_and w (1 * 2 ^ (at % 64) % 18446744073709551616 - 1)) ≡ count_ones (get_or words (at / 64) 0 % 2 ^ (at % 64))
ones_before words at w within read =
    ap count_ones
    (ap (λ (m : ℕ). bit_and w (m - 1)) (one_shl (at % 64) 64 (omega arith))
    ∙ (and_mask w (at % 64) ∙ ap (λ (v : ℕ). v % 2 ^ (at % 64)) (read ∙ get_or_default_zero words (at / 64) w within)))

-- one bit more to count
pub ones_more : (w r : ℕ) → count_ones (w % 2 ^ (r + 1)) ≡ count_ones (w % 2 ^ r) + bit_at w r
ones_more w r =
    ap (λ (k : ℕ). count_ones (w % 2 ^ k)) swap
    ∙ (ap count_ones (mod-pow-add w 1 r)
    ∙ (ones_cat r (w / 2 ^ r % 2 ^ 1) (w % 2 ^ r) below
    ∙ (ap (λ (x : ℕ). x + count_ones (w % 2 ^ r)) (ones_bit (bit_at w r) (bit_at-lt w r)) ∙ turned)))
  where
    swap : r + 1 ≡ 1 + r
    swap = omega arith

    below : w % 2 ^ r < 2 ^ r
    below = let pos = pow_pos r in omega arith

    turned : bit_at w r + count_ones (w % 2 ^ r) ≡ count_ones (w % 2 ^ r) + bit_at w r
    turned = omega arith

-- ---- places

none_placed : (A : Type 0) (m : ℕ) → nodes_before {A = A} [] m ≡ 0
none_placed A zero = refl
none_placed A (suc m) = refl

module _ {A : Type 0} where
  -- a slot farther
  pub place_step : (slots : List (Option A)) (i : ℕ) → nodes_before slots (i + 1) ≡ nodes_before slots i + slot_mark (slice_get slots i)
  place_step [] zero = refl
  place_step [] (suc i) = none_placed A (suc i + 1)
  place_step (Some x ∷ slots) zero = refl
  place_step (None ∷ slots) zero = refl
  place_step (Some x ∷ slots) (suc i) =
      let shift : suc i + 1 ≡ suc (i + 1) = omega arith in
      let moved : nodes_before (Some x ∷ slots) (suc i + 1) ≡ nodes_before (Some x ∷ slots) (suc (i + 1)) = ap (nodes_before (Some x ∷ slots)) shift in
      let rest = place_step slots i in
      omega arith
  place_step (None ∷ slots) (suc i) =
      let shift : suc i + 1 ≡ suc (i + 1) = omega arith in
      ap (nodes_before (None ∷ slots)) shift ∙ place_step slots i

  -- as many nodes as bits before a slot of a group
  places_from : (slots : List (Option A)) (words : List ℕ) (g r : ℕ) → AreMarks slots words → r ≤ 64
      → nodes_before slots (64 * g) + count_ones (get_or words g 0 % 2 ^ r) ≡ nodes_before slots (64 * g + r)
  places_from slots words g zero m le =
      let same : 64 * g + 0 ≡ 64 * g = omega arith in
      let none : get_or words g 0 % 2 ^ 0 ≡ 0 = omega arith in
      let ones : count_ones (get_or words g 0 % 2 ^ 0) ≡ 0 = ap count_ones none ∙ ones_bit 0 (omega arith) in
      let moved : nodes_before slots (64 * g + 0) ≡ nodes_before slots (64 * g) = ap (nodes_before slots) same in
      omega arith
  places_from slots words g (suc r) m le =
      let rest = places_from slots words g r m (omega arith) in
      let shift : suc r ≡ r + 1 = omega arith in
      let ones : count_ones (get_or words g 0 % 2 ^ suc r) ≡ count_ones (get_or words g 0 % 2 ^ r) + bit_at (get_or words g 0) r =
      ap (λ (k : ℕ). count_ones (get_or words g 0 % 2 ^ k)) shift ∙ ones_more (get_or words g 0) r in
      let farther : 64 * g + suc r ≡ 64 * g + r + 1 = omega arith in
      let step : nodes_before slots (64 * g + suc r) ≡ nodes_before slots (64 * g + r) + slot_mark (slice_get slots (64 * g + r)) =
      ap (nodes_before slots) farther ∙ place_step slots (64 * g + r) in
      let group : (64 * g + r) / 64 ≡ g = omega arith in
      let within : (64 * g + r) % 64 ≡ r = omega arith in
      let bit : bit_at (get_or words g 0) r ≡ slot_mark (slice_get slots (64 * g + r)) =
      ap (λ (h : ℕ). bit_at (get_or words h 0) r) (sym group) ∙ (ap (bit_at (get_or words ((64 * g + r) / 64) 0)) (sym within) ∙ m.each (64 * g + r)) in
      omega arith

  pub places_marked : (slots : List (Option A)) (words : List ℕ) (i : ℕ) → AreMarks slots words
      → nodes_before slots (64 * (i / 64)) + count_ones (get_or words (i / 64) 0 % 2 ^ (i % 64)) ≡ nodes_before slots i
  places_marked slots words i m =
      let is : 64 * (i / 64) + i % 64 ≡ i = omega arith in
      places_from slots words (i / 64) (i % 64) m (omega arith) ∙ ap (nodes_before slots) is

  -- ---- marked slots

  pub filled_marked : (o : Option (Option A)) → slot_mark o ≡ 1 → (x : A) × (o ≡ Some (Some x))
  filled_marked (Some (Some x)) is = (x, refl)
  filled_marked (Some None) is = absurd (cc)
  filled_marked None is = absurd (cc)

  pub marked_filled : (slots : List (Option A)) (words : List ℕ) (i : ℕ) → AreMarks slots words → slot_bit words i ≡ 1 → HoldsNode slots i
  marked_filled slots words i m is = filled_marked (slice_get slots i) (sym (m.each i) ∙ is)

  pub filled_is_marked : (slots : List (Option A)) (words : List ℕ) (i : ℕ) (x : A) → AreMarks slots words → slice_get slots i ≡ Some (Some x) → slot_bit words i ≡ 1
  filled_is_marked slots words i x m at = m.each i ∙ ap (λ (o : Option (Option A)). slot_mark o) at

  -- a slot farther, by its bit
  pub place_marked : (slots : List (Option A)) (words : List ℕ) (i : ℕ) → AreMarks slots words → slot_bit words i ≡ 1 → nodes_before slots (i + 1) ≡ nodes_before slots i + 1
  place_marked slots words i m is = let step = place_step slots i in let each = m.each i in omega arith

  pub place_unmarked : (slots : List (Option A)) (words : List ℕ) (i : ℕ) → AreMarks slots words → (slot_bit words i ≡ 1 → ⊥) → nodes_before slots (i + 1) ≡ nodes_before slots i
  place_unmarked slots words i m not =
      let step = place_step slots i in
      let each = m.each i in
      let few = bit_at-lt (get_or words (i / 64) 0) (i % 64) in
      elim (cases_order (slot_bit words i) 1) [
        | inl one ↦ absurd (not one)
        | inr other ↦ elim other [ inl lt ↦ omega arith | inr gt ↦ absurd (omega arith) ]
      ]

  -- the same, as the test of a bit reports
  pub place_tested :
      (slots : List (Option A)) (words ws : List ℕ) (i : ℕ) (r : Bool) → AreMarks slots words → ws ≡ words → (r ≡ true ↔ (slot_bit ws i ≡ 1)) → r ≡ true
      → nodes_before slots (i + 1) ≡ nodes_before slots i + 1
  place_tested slots words ws i r m is test held =
      place_marked slots words i m (ap (λ (vs : List ℕ). slot_bit vs i) (sym is) ∙ test.0 held)

  pub place_failed :
      (slots : List (Option A)) (words ws : List ℕ) (i : ℕ) (r : Bool) → AreMarks slots words → ws ≡ words → (r ≡ true ↔ (slot_bit ws i ≡ 1)) → r ≡ false
      → nodes_before slots (i + 1) ≡ nodes_before slots i
  place_failed slots words ws i r m is test lacks =
      place_unmarked slots words i m (λ marked. let held = test.1 (ap (λ (vs : List ℕ). slot_bit vs i) is ∙ marked) in absurd (cc))

  -- ---- nodes come and go

  -- a slot holds something else
  get_set : (slots : List (Option A)) (i : ℕ) (o : Option A) → i < length slots → slice_get (set slots i o) i ≡ Some o
  get_set [] i o within = absurd (omega arith)
  get_set (x ∷ slots) zero o within = refl
  get_set (x ∷ slots) (suc i) o within = get_set slots i o (omega arith)

  get_set_else : (slots : List (Option A)) (i k : ℕ) (o : Option A) → k ≢ i → slice_get (set slots i o) k ≡ slice_get slots k
  get_set_else [] i k o apart = refl
  get_set_else (x ∷ slots) zero zero o apart = absurd (apart refl)
  get_set_else (x ∷ slots) zero (suc k) o apart = refl
  get_set_else (x ∷ slots) (suc i) zero o apart = refl
  get_set_else (x ∷ slots) (suc i) (suc k) o apart = get_set_else slots i k o (λ e. apart (ap suc e))

  pub marks_set :
      (slots : List (Option A)) (words after : List ℕ) (i : ℕ) (o : Option A) → AreMarks slots words → i < length slots
      → slot_bit after i ≡ slot_mark (Some o) → ((k : ℕ) → k ≢ i → slot_bit after k ≡ slot_bit words k) → length after ≡ length words
      → AreMarks (set slots i o) after
  marks_set slots words after i o m within here else len = record {
    each = λ k. elim (cases_order k i) [
      | inl same ↦ subst (λ (j : ℕ). slot_bit after j ≡ slot_mark (slice_get (set slots i o) j)) (sym same)
          (here ∙ ap (λ (p : Option (Option A)). slot_mark p) (sym (get_set slots i o within)))
      | inr other ↦ away k (λ e. elim other [ inl lt ↦ omega arith | inr gt ↦ omega arith ])
    ];
    covering = let covers = m.covering in let same = length-set slots i o in omega arith;
  }
    where
      away : (k : ℕ) → k ≢ i → slot_bit after k ≡ slot_mark (slice_get (set slots i o) k)
      away k apart = else k apart ∙ (m.each k ∙ ap (λ (p : Option (Option A)). slot_mark p) (sym (get_set_else slots i k o apart)))

  get_push : (slots : List (Option A)) (o : Option A) → slice_get (slots ++ o ∷ []) (length slots) ≡ Some o
  get_push [] o = refl
  get_push (x ∷ slots) o = get_push slots o

  get_push_else : (slots : List (Option A)) (k : ℕ) (o : Option A) → k ≢ length slots → slice_get (slots ++ o ∷ []) k ≡ slice_get slots k
  get_push_else [] zero o apart = absurd (apart refl)
  get_push_else [] (suc k) o apart = refl
  get_push_else (x ∷ slots) zero o apart = refl
  get_push_else (x ∷ slots) (suc k) o apart = get_push_else slots k o (λ e. apart (ap suc e))

  pub marks_push :
      (slots after : List (Option A)) (words more : List ℕ) (i : ℕ) (x : A) → after ≡ slots ++ Some x ∷ [] → i ≡ length slots → AreMarks slots words
      → length slots < 64 * length words → slot_bit more i ≡ 1 → ((k : ℕ) → k ≢ i → slot_bit more k ≡ slot_bit words k) → length more ≡ length words
      → AreMarks after more
  marks_push slots after words more i x is at m room here else len =
      subst (λ (ys : List (Option A)). AreMarks ys more) (sym is) (record {
        each = λ k. elim (cases_order k (length slots)) [
          | inl same ↦ subst (λ (j : ℕ). slot_bit more j ≡ slot_mark (slice_get (slots ++ Some x ∷ []) j)) (sym same) last
          | inr other ↦ away k (λ e. elim other [ inl lt ↦ omega arith | inr gt ↦ omega arith ])
        ];
        covering = let longer = length-append slots (Some x ∷ []) in omega arith;
      })
    where
      last : slot_bit more (length slots) ≡ slot_mark (slice_get (slots ++ Some x ∷ []) (length slots))
      last = ap (slot_bit more) (sym at) ∙ (here ∙ ap (λ (p : Option (Option A)). slot_mark p) (sym (get_push slots (Some x))))

      away : (k : ℕ) → k ≢ length slots → slot_bit more k ≡ slot_mark (slice_get (slots ++ Some x ∷ []) k)
      away k apart =
          else k (λ e. apart (e ∙ at)) ∙ (m.each k ∙ ap (λ (p : Option (Option A)). slot_mark p) (sym (get_push_else slots k (Some x) apart)))

  pub marks_more : (slots : List (Option A)) (words more : List ℕ) → AreMarks slots words → more ≡ words ++ 0 ∷ [] → AreMarks slots more
  marks_more slots words more m is =
      subst (λ (ws : List ℕ). AreMarks slots ws) (sym is) (record {
        each = λ k. ap (λ (w : ℕ). bit_at w (k % 64)) (word_more words (k / 64)) ∙ m.each k;
        covering = let covers = m.covering in let longer = length-append words (0 ∷ []) in omega arith;
      })
