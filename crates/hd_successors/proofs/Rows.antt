-- Marks by the atoms of bytes.
use Rattle.std.proofs.Common.{◌≡◌, ℕ, suc, ◌+◌, ◌*◌, ◌-◌, ◌<◌, ◌≤◌, ◌/◌, ◌%◌, ◌==◌, ◌&&◌, ◌||◌, nat_le, nat_lt, Bool, true, false, List, [], ◌∷◌, ◌++◌, length, take, drop, get_or, filter, cond, inl, inr, refl, sym, ap, ap₂, ◌∙◌, arith, true≢false}
use Rattle.std.specs.Prelude.{Option, Some, None}
use Rattle.std.specs.Int.{bit_at}
use Rattle.std.specs.List.{flat_map}
use Rattle.std.proofs.lemmas.Bool.{cases_eq, cases_lt, eq-eqb, ne_eqb, le-leb, lt-leb, lt-ltb, le-ltb, ltb-true, eqb-true, and_left, and_right}
use Rattle.std.proofs.lemmas.List.{length-append, get_or_past}
use Rattle.std.proofs.lemmas.Nat.Bits.{bit_at-zero, bit_at_above}
use Rattle.hd_base.proofs.Truth.{or-false}
use Rattle.hd_task.specs.declared.state.State.{State}
use Rattle.hd_task.specs.Conditions.{has_atom}
use Rattle.hd_pack.specs.Packing.{packed_bytes, atom_bytes, value_bytes, bytes_for}
use Rattle.hd_pack.proofs.AtomBits.{atom_at, length-atom_bytes}
use Rattle.hd_successors.specs.declared.watching.WatchedAtoms.{WatchedAtoms}
use Rattle.hd_successors.specs.declared.watching.WatchedAtoms.TheVariants.{Always, Atoms}
use Rattle.hd_successors.specs.Seeing.{watches_one, other_passes, is_always, is_in_byte}
use Rattle.hd_successors.specs.Watching.{is_seen, is_candidate, candidates}
use Rattle.hd_successors.specs.Marks.{IsFirstMark}
use Rattle.hd_base.specs.Bits.{bit_in}
use Rattle.hd_task.specs.Effects.{numbers_below}
use Rattle.std.proofs.lemmas.List.Elements.{filter_agree}
use Rattle.std.proofs.Math.Seq.{take-append_seam}

-- ---- tests of what is watched

pub and_true : (b : Bool) → (b && true) ≡ b
and_true true = refl
and_true false = refl

none_or : (b : Bool) → ((b && false) || b) ≡ b
none_or true = refl
none_or false = refl

turned : (x y k z : Bool) → (((x || y) && k) || z) ≡ ((y && k) || ((x && k) || z))
turned true true true z = refl
turned true true false z = refl
turned true false true z = refl
turned true false false z = refl
turned false true true z = refl
turned false true false z = refl
turned false false k z = refl

-- a test that is the first one or the second, where another passes too
pub watches_either : (p q r : ℕ → Bool) (o : Option WatchedAtoms) (k b : Bool) → ((a : ℕ) → r a ≡ (p a || q a))
    → ((watches_one q o && k) || ((watches_one p o && k) || b)) ≡ ((watches_one r o && k) || b)
watches_either p q r None k b e = refl
watches_either p q r (Some Always) k b e = refl
watches_either p q r (Some (Atoms a i)) k b e = sym (ap (λ x. (x && k) || b) (e a) ∙ turned (p a) (q a) k b)

pub watches_same : (p q : ℕ → Bool) (o : Option WatchedAtoms) → ((a : ℕ) → p a ≡ q a) → watches_one p o ≡ watches_one q o
watches_same p q None e = refl
watches_same p q (Some Always) e = refl
watches_same p q (Some (Atoms a i)) e = e a

pub watches_nothing : (p : ℕ → Bool) (o : Option WatchedAtoms) → ((a : ℕ) → p a ≡ false) → watches_one p o ≡ false
watches_nothing p None e = refl
watches_nothing p (Some Always) e = refl
watches_nothing p (Some (Atoms a i)) e = e a

-- ---- a byte, bit by bit

-- the atoms of so many that pass, below a number
abbrev pub passing_below : ℕ → (ℕ → Bool) → ℕ → ℕ → Bool
passing_below count q m a = nat_lt a count && (q a && nat_lt a m)

below_next : (m n a : ℕ) → n ≡ suc m → nat_lt a n ≡ (nat_lt a m || (a == m))
below_next m n a e =
    elim (cases_lt a m) [
      | inl lt ↦ lt-ltb a n (omega (arith, lt, e)) ∙ sym (ap (λ b. b || (a == m)) (lt-ltb a m lt))
      | inr le ↦
          elim (cases_eq a m) [
            | inl same ↦ lt-ltb a n (omega (arith, same, e)) ∙ sym (ap₂ (λ x y. x || y) (le-ltb a m le) (eq-eqb a m same))
            | inr other ↦ le-ltb a n (omega (arith, le, other, e)) ∙ sym (ap₂ (λ x y. x || y) (le-ltb a m le) (ne_eqb a m other))
          ]
    ]

with_it : (l q b i : Bool) → (i ≡ true → q ≡ true) → (l && (q && (b || i))) ≡ ((l && (q && b)) || (i && l))
with_it true true true i h = refl
with_it true true false true h = refl
with_it true true false false h = refl
with_it true false b true h = absurd (true≢false (sym (h refl)))
with_it true false b false h = refl
with_it false q b true h = refl
with_it false q b false h = refl

same_from_eqb : (q : ℕ → Bool) (m a : ℕ) (b : Bool) → q m ≡ b → (a == m) ≡ true → q a ≡ b
same_from_eqb q m a b e is = ap q (eqb-true a m is) ∙ e

-- one atom more, which passes
pub passing_more : (count : ℕ) (q : ℕ → Bool) (m n a : ℕ) → n ≡ suc m → q m ≡ true → passing_below count q n a ≡ (passing_below count q m a || ((a == m) && nat_lt a count))
passing_more count q m n a e is =
    ap (λ b. nat_lt a count && (q a && b)) (below_next m n a e)
    ∙ with_it (nat_lt a count) (q a) (nat_lt a m) (a == m) (same_from_eqb q m a true is)

-- atoms more, none of which passes
pub passing_same : (count : ℕ) (q : ℕ → Bool) (m n a : ℕ) → m ≤ n → ((k : ℕ) → m ≤ k → k < n → q k ≡ false) → passing_below count q m a ≡ passing_below count q n a
passing_same count q m n a le none =
    ap (λ b. nat_lt a count && b)
    (elim (cases_lt a m) [
      | inl low ↦ ap (λ b. q a && b) (lt-ltb a m low ∙ sym (lt-ltb a n (omega (arith, low, le))))
      | inr high ↦
          elim (cases_lt a n) [
            | inl near ↦
                let fails = none a high near in
                and_left (q a) (nat_lt a m) fails ∙ sym (and_left (q a) (nat_lt a n) fails)
            | inr far ↦ ap (λ b. q a && b) (le-ltb a m high ∙ sym (le-ltb a n far))
          ]
    ])

-- a byte has no atom below its first, and none beyond its last
pub none_below : (byte base a : ℕ) → a < base → is_in_byte byte base a ≡ false
none_below byte base a lt = ap (λ b. b && (bit_at byte (a - base) == 1)) (lt-leb base a lt)

pub none_beyond : (byte base a : ℕ) → byte < 256 → base + 8 ≤ a → is_in_byte byte base a ≡ false
none_beyond byte base a fits far =
    and_right (nat_le base a) (bit_at byte (a - base) == 1) (ap (λ k. k == 1) (bit_at_above byte 8 (a - base) (omega (arith, fits)) (omega (arith, far))))

-- the bits of one word that is a byte
one_word : (byte bit : ℕ) → byte < 256 → (bit_at (get_or (byte ∷ []) (bit / 64) 0) (bit % 64) == 1) ≡ (bit_at byte bit == 1)
one_word byte bit fits =
    elim (cases_lt bit 64) [
      | inl lt ↦
          let row : bit / 64 ≡ 0 = omega (arith, lt) in
          let column : bit % 64 ≡ bit = omega (arith, lt) in
          ap₂ (λ j k. bit_at (get_or (byte ∷ []) j 0) k == 1) row column
      | inr far ↦
          let past : 1 ≤ bit / 64 = omega (arith, far) in
          ap (λ w. bit_at w (bit % 64) == 1) (get_or_past (byte ∷ []) (bit / 64) 0 past)
          ∙ (ap (λ k. k == 1) (bit_at-zero (bit % 64))
          ∙ sym (ap (λ k. k == 1) (bit_at_above byte 8 bit (omega (arith, fits)) (omega (arith, far)))))
    ]

-- an atom's own bit, as a mark in one word
pub own_mark : (words : List ℕ) (byte base a bit : ℕ) → words ≡ byte ∷ [] → byte < 256 → a ≡ base + bit → is_in_byte byte base a ≡ bit_in words bit
unfolding bit_in
own_mark words byte base a bit is fits at =
    let own : a - base ≡ bit = omega (arith, at) in
    let own_bit : is_in_byte byte base a ≡ (bit_at byte bit == 1) =
    ap₂ (λ x k. x && (bit_at byte k == 1)) (le-leb base a (omega (arith, at))) own in
    let word : get_or words (bit / 64) 0 ≡ get_or (byte ∷ []) (bit / 64) 0 = ap (λ ws. get_or ws (bit / 64) 0) is in
    own_bit
    ∙ sym (ap (λ w. bit_at w (bit % 64) == 1) word ∙ one_word byte bit fits)

-- no mark beyond the byte's bits
pub mark_within : (words : List ℕ) (byte bit : ℕ) → words ≡ byte ∷ [] → byte < 256 → bit_in words bit ≡ true → bit < 8
mark_within words byte bit is fits marked =
    elim (cases_lt bit 8) [
      | inl lt ↦ lt
      | inr far ↦ absurd (true≢false (sym marked ∙ (sym (own_mark words byte 0 (0 + bit) bit is fits refl) ∙ none_beyond byte 0 (0 + bit) fits (omega (arith, far)))))
    ]

pub no_bits : (count byte base a : ℕ) → passing_below count (is_in_byte byte base) (base + 0) a ≡ false
no_bits count byte base a =
    and_right (nat_lt a count) (is_in_byte byte base a && nat_lt a (base + 0))
    (elim (cases_lt a base) [
      | inl lt ↦ and_left (is_in_byte byte base a) (nat_lt a (base + 0)) (none_below byte base a lt)
      | inr le ↦ and_right (is_in_byte byte base a) (nat_lt a (base + 0)) (le-ltb a (base + 0) (omega (arith, le)))
    ])

-- where no bit from a number on is set
pub all_bits : (count byte base from : ℕ) → ((k : ℕ) → base + from ≤ k → is_in_byte byte base k ≡ false)
    → (a : ℕ) → passing_below count (is_in_byte byte base) (base + from) a ≡ (nat_lt a count && is_in_byte byte base a)
all_bits count byte base from none a =
    ap (λ b. nat_lt a count && b)
    (elim (cases_lt a (base + from)) [
      | inl lt ↦ ap (λ b. is_in_byte byte base a && b) (lt-ltb a (base + from) lt) ∙ and_true (is_in_byte byte base a)
      | inr le ↦
          let fails = none a le in
          and_left (is_in_byte byte base a) (nat_lt a (base + from)) fails ∙ sym fails
    ])

-- the first bit of a byte from a number on, as the first mark in one word
pub record NextBit (count byte base from bit : ℕ) : Type 0 where
  pub small : bit < 8
  pub behind : from ≤ bit
  pub more : (a : ℕ) → passing_below count (is_in_byte byte base) (base + (bit + 1)) a
      ≡ (passing_below count (is_in_byte byte base) (base + from) a || ((a == (base + bit)) && nat_lt a count))

pub next_bit : (words : List ℕ) (count byte base from bit : ℕ) → words ≡ byte ∷ [] → byte < 256 → IsFirstMark words from bit → NextBit count byte base from bit
next_bit words count byte base from bit is fits first =
    let passes = is_in_byte byte base in
    let le : from ≤ bit = first.from_there in
    record {
      small = mark_within words byte bit is fits first.is_marked_there;
      behind = le;
      more = λ a.
          passing_more count passes (base + bit) (base + (bit + 1)) a (omega arith) (own_mark words byte base (base + bit) bit is fits refl ∙ first.is_marked_there)
          ∙ ap (λ b. b || ((a == (base + bit)) && nat_lt a count))
          (sym (passing_same count passes (base + from) (base + bit) a (omega (arith, le))
          (λ k far lt. own_mark words byte base k (k - base) is fits (omega (arith, far)) ∙ first.none_before (k - base) (omega (arith, far)) (omega (arith, far, lt)))));
    }

-- no bit of a byte is set from a number on, if nothing is marked in one word
pub last_bit : (words : List ℕ) (count byte base from : ℕ) → words ≡ byte ∷ [] → byte < 256 → ((m : ℕ) → from ≤ m → bit_in words m ≡ false)
    → (a : ℕ) → passing_below count (is_in_byte byte base) (base + from) a ≡ (nat_lt a count && is_in_byte byte base a)
last_bit words count byte base from is fits none =
    all_bits count byte base from (λ k far. own_mark words byte base k (k - base) is fits (omega (arith, far)) ∙ none (k - base) (omega (arith, far)))

-- ---- a state's bytes

-- the bytes of a state, one for eight atoms at least
pub enough_bytes : (s : State) (xs : List ℕ) → xs ≡ packed_bytes s → bytes_for (length s.atoms) ≤ length xs
unfolding packed_bytes
enough_bytes s xs is =
    let whole : length xs ≡ length (atom_bytes s.atoms) + length (flat_map value_bytes s.fluents) = ap length is ∙ length-append (atom_bytes s.atoms) (flat_map value_bytes s.fluents) in
    let front = length-atom_bytes s.atoms in
    omega (arith, whole, front)

-- what a byte says of an atom
byte_of_state : (s : State) (xs : List ℕ) (place a : ℕ) → xs ≡ packed_bytes s → a < length s.atoms → 8 * place ≤ a → a < 8 * place + 8
    → is_in_byte (get_or xs place 0) (8 * place) a ≡ has_atom s a
unfolding packed_bytes
byte_of_state s xs place a is lt le near =
    let row : a / 8 ≡ place = omega (arith, le, near) in
    let column : a % 8 ≡ a - 8 * place = omega (arith, le, near) in
    ap (λ b. b && (bit_at (get_or xs place 0) (a - 8 * place) == 1)) (le-leb (8 * place) a le)
    ∙ (sym (ap₂ (λ j k. bit_at (get_or xs j 0) k == 1) row column)
    ∙ (ap (λ ys. bit_at (get_or ys (a / 8) 0) (a % 8) == 1) is ∙ atom_at s.atoms (flat_map value_bytes s.fluents) a lt))

-- a byte more
pub byte_more : (s : State) (xs : List ℕ) (count place n a : ℕ) → xs ≡ packed_bytes s → length s.atoms ≡ count → get_or xs place 0 < 256 → n ≡ suc place
    → passing_below count (has_atom s) (8 * n) a ≡ (passing_below count (has_atom s) (8 * place) a || (nat_lt a count && is_in_byte (get_or xs place 0) (8 * place) a))
byte_more s xs count place n a is size fits next =
    let byte = get_or xs place 0 in
    let split : (nat_lt a count ≡ true → (has_atom s a && nat_lt a (8 * n)) ≡ ((has_atom s a && nat_lt a (8 * place)) || is_in_byte byte (8 * place) a)) =
    λ known.
    elim (cases_lt a (8 * place)) [
      | inl low ↦
          ap (λ b. has_atom s a && b) (lt-ltb a (8 * n) (omega (arith, low, next)))
          ∙ sym (ap₂ (λ x y. (has_atom s a && x) || y) (lt-ltb a (8 * place) low) (none_below byte (8 * place) a low) ∙ or-false (has_atom s a && true))
      | inr high ↦
          elim (cases_lt a (8 * place + 8)) [
            | inl near ↦
                ap (λ b. has_atom s a && b) (lt-ltb a (8 * n) (omega (arith, near, next))) ∙ (and_true (has_atom s a)
                ∙ sym (ap₂ (λ x y. (has_atom s a && x) || y) (le-ltb a (8 * place) high) (byte_of_state s xs place a is (let k = ltb-true a count known in omega (arith, k, size)) high near) ∙ none_or (has_atom s a)))
            | inr far ↦
                ap (λ b. has_atom s a && b) (le-ltb a (8 * n) (omega (arith, far, next)))
                ∙ sym (ap₂ (λ x y. (has_atom s a && x) || y) (le-ltb a (8 * place) high) (none_beyond byte (8 * place) a fits far) ∙ or-false (has_atom s a && false))
          ]
    ] in
    elim (nat_lt a count) as (λ l. (l ≡ true → (has_atom s a && nat_lt a (8 * n)) ≡ ((has_atom s a && nat_lt a (8 * place)) || is_in_byte byte (8 * place) a))
    → (l && (has_atom s a && nat_lt a (8 * n))) ≡ ((l && (has_atom s a && nat_lt a (8 * place))) || (l && is_in_byte byte (8 * place) a))) [
      | true ↦ λ h. h refl
      | false ↦ λ h. refl
    ] split

pub no_bytes : (s : State) (count a : ℕ) → passing_below count (has_atom s) (8 * 0) a ≡ false
no_bytes s count a =
    and_right (nat_lt a count) (has_atom s a && nat_lt a (8 * 0)) (and_right (has_atom s a) (nat_lt a (8 * 0)) (le-ltb a (8 * 0) (omega arith)))

-- all bytes
pub all_bytes : (s : State) (count place : ℕ) → length s.atoms ≡ count → count ≤ 8 * place → (a : ℕ) → passing_below count (has_atom s) (8 * place) a ≡ has_atom s a
all_bytes s count place size le a =
    elim (cases_lt a count) [
      | inl lt ↦ ap₂ (λ x y. x && (has_atom s a && y)) (lt-ltb a count lt) (lt-ltb a (8 * place) (omega (arith, lt, le))) ∙ and_true (has_atom s a)
      | inr far ↦
          let none : has_atom s a ≡ false = get_or_past s.atoms a false (omega (arith, far, size)) in
          and_left (nat_lt a count) (has_atom s a && nat_lt a (8 * place)) (le-ltb a count far) ∙ sym none
    ]

-- ---- candidates

-- a candidate watches two true atoms, or nothing
pub seen_parts : (s : State) (o : Option WatchedAtoms) → is_seen s o ≡ ((watches_one (has_atom s) o && other_passes (has_atom s) o) || is_always o)
seen_parts s None = refl
seen_parts s (Some Always) = refl
seen_parts s (Some (Atoms a i)) = sym (or-false (has_atom s a && has_atom s i))

-- where nothing passes
pub filter_nothing : (f : ℕ → Bool) (xs : List ℕ) → ((i : ℕ) → f i ≡ false) → filter f xs ≡ []
filter_nothing f [] none = refl
filter_nothing f (x ∷ xs) none = ap (λ b. cond b (x ∷ filter f xs) (filter f xs)) (none x) ∙ filter_nothing f xs none

-- what is written over a whole list
pub written_over : (n : ℕ) (xs ys : List ℕ) → length xs ≡ n → take n (xs ++ drop (length xs) ys) ≡ xs
written_over n xs ys size = ap (λ k. take k (xs ++ drop (length xs) ys)) (sym size) ∙ take-append_seam xs (drop (length xs) ys)

-- the marks are those of the candidates
pub marked_candidates : (ws : List WatchedAtoms) (s : State) (words over : List ℕ) → over ≡ words → ((i : ℕ) → bit_in words i ≡ is_candidate ws s i) → filter (bit_in over) (numbers_below (length ws)) ≡ candidates ws s
unfolding candidates
marked_candidates ws s words over same is =
    ap (λ xs. filter (bit_in xs) (numbers_below (length ws))) same ∙ filter_agree (bit_in words) (is_candidate ws s) is (numbers_below (length ws))
