-- Slots whose nodes are moved together.
use Rattle.std.proofs.Common.{◌≡◌, ◌⊎◌, ℕ, zero, suc, ◌+◌, ◌-◌, ◌*◌, ◌/◌, ◌%◌, ◌^◌, ◌<◌, ◌≤◌, false, cond, List, [], ◌∷◌, ◌++◌, Option, Some, None, length, get_or, take, slice_get, replicate, refl, sym, ap, ◌∙◌, subst, inl, inr, ⊎_elim, arith, length-append}
use Rattle.std.specs.Prelude.{min, is_some}
use Rattle.std.specs.List.{SwappedAt}
use Rattle.std.specs.Int.{bit_at}
use Rattle.std.proofs.lemmas.Bool.{cases_lt}
use Rattle.std.proofs.lemmas.Nat.{one_shl}
use Rattle.std.proofs.lemmas.Nat.Bits.{bit_at-zero, bit_at_ones, bit_at_ones_above}
use Rattle.std.proofs.lemmas.List.{get_or_append_left, get_or_push, get_or_past, get_or-take, get_or-replicate, length-replicate, length-take, take-take, append-nil}
use Rattle.std.proofs.Math.Seq.{take-append_seam}
use Rattle.std.proofs.lemmas.List.Elements.{filter_more}
use Rattle.hd_open.specs.declared.counts.NodeCounts.{NodeCounts}
use Rattle.hd_open.specs.declared.queue.OpenQueue.{OpenQueue}
use Rattle.hd_open.specs.Live.{live, packed, nodes_before}
use Rattle.hd_open.specs.Marks.{slot_bit, slot_mark, AreMarks}
use Rattle.hd_open.specs.Counts.{start_of, part_at, AreCounts}
use Rattle.hd_open.specs.Queue.{Has, IsQueued, IsQueueOrderly, IsSingle, IsBelow}
use Rattle.hd_open.proofs.Lowest.{start_less}
use Rattle.hd_open.proofs.Places.{length-live-le}
use Rattle.hd_open.proofs.Queueing.{queued_push, single_added, below_added}

-- ---- marks of slots that all hold a node

-- so many words are full
words_len : (words : List ℕ) (n : ℕ) → words ≡ replicate (n / 64) 18446744073709551615 → length words ≡ n / 64
words_len words n full = ap length full ∙ length-replicate (n / 64) 18446744073709551615

-- the words before the last one, that one, and none after it
word_before :
    (words more : List ℕ) (n v g : ℕ) → words ≡ replicate (n / 64) 18446744073709551615 → more ≡ words ++ v ∷ [] → g < n / 64
    → get_or more g 0 ≡ 18446744073709551615
word_before words more n v g full is lt =
    ap (λ (ws : List ℕ). get_or ws g 0) is
    ∙ (get_or_append_left words (v ∷ []) 0 g (let len = words_len words n full in omega arith)
    ∙ (ap (λ (ws : List ℕ). get_or ws g 0) full ∙ get_or-replicate (n / 64) g 18446744073709551615 0 lt))

last_word : (words more : List ℕ) (n v g : ℕ) → words ≡ replicate (n / 64) 18446744073709551615 → more ≡ words ++ v ∷ [] → g ≡ n / 64 → get_or more g 0 ≡ v
last_word words more n v g full is at =
    ap (λ (ws : List ℕ). get_or ws g 0) is ∙ get_or_push words v 0 g (let len = words_len words n full in omega arith)

word_past : (words more : List ℕ) (n v g : ℕ) → words ≡ replicate (n / 64) 18446744073709551615 → more ≡ words ++ v ∷ [] → n / 64 < g → get_or more g 0 ≡ 0
word_past words more n v g full is past =
    get_or_past more g 0
    (let len = words_len words n full in
    let longer : length more ≡ length words + 1 = ap length is ∙ length-append words (v ∷ []) in
    omega arith)

abbrev ones : ℕ → ℕ
ones n = 1 * 2 ^ (n % 64) % 18446744073709551616 - 1

ones_is : (n : ℕ) → ones n ≡ 2 ^ (n % 64) - 1
ones_is n = ap (λ (m : ℕ). m - 1) (one_shl (n % 64) 64 (omega arith))

pub full_marked :
    (words more : List ℕ) (n i : ℕ) → words ≡ replicate (n / 64) 18446744073709551615
    → more ≡ words ++ (1 * 2 ^ (n % 64) % 18446744073709551616 - 1) ∷ [] → i < n → slot_bit more i ≡ 1
full_marked words more n i full is lt =
    elim (cases_lt (i / 64) (n / 64)) [
      | inl before ↦ ap (λ (w : ℕ). bit_at w (i % 64)) (word_before words more n (ones n) (i / 64) full is before) ∙ bit_at_ones 64 (i % 64) (omega arith)
      | inr behind ↦ ap (λ (w : ℕ). bit_at w (i % 64)) (last_word words more n (ones n) (i / 64) full is (omega arith) ∙ ones_is n)
          ∙ bit_at_ones (n % 64) (i % 64) (omega arith)
    ]

pub full_unmarked :
    (words more : List ℕ) (n i : ℕ) → words ≡ replicate (n / 64) 18446744073709551615
    → more ≡ words ++ (1 * 2 ^ (n % 64) % 18446744073709551616 - 1) ∷ [] → n ≤ i → slot_bit more i ≡ 0
full_unmarked words more n i full is le =
    elim (cases_lt (n / 64) (i / 64)) [
      | inl past ↦ ap (λ (w : ℕ). bit_at w (i % 64)) (word_past words more n (ones n) (i / 64) full is past) ∙ bit_at-zero (i % 64)
      | inr here ↦ ap (λ (w : ℕ). bit_at w (i % 64)) (last_word words more n (ones n) (i / 64) full is (omega arith) ∙ ones_is n)
          ∙ bit_at_ones_above (n % 64) (i % 64) (omega arith)
    ]

-- ---- parts of slots that all hold a node

-- so many parts are of groups that are full
pub record AreWhole (parts : List ℕ) (groups : ℕ) : Type 0 where
  pub each : (end : ℕ) → 0 < end → end ≤ groups → 64 * start_of end + part_at parts end ≡ 64 * end
  pub len : length parts ≡ groups

module _ {A : Type 0} where
  -- ---- nodes that stand together

  length-packed : (slots : List (Option A)) → length (packed slots) ≡ length (live slots)
  length-packed [] = refl
  length-packed (Some x ∷ slots) = ap suc (length-packed slots)
  length-packed (None ∷ slots) = length-packed slots

  pub live-packed : (slots : List (Option A)) → live (packed slots) ≡ live slots
  live-packed [] = refl
  live-packed (Some x ∷ slots) = ap (λ (ns : List A). x ∷ ns) (live-packed slots)
  live-packed (None ∷ slots) = live-packed slots

  place-packed : (slots : List (Option A)) (m : ℕ) → nodes_before (packed slots) m ≡ min m (length (live slots))
  place-packed [] zero = refl
  place-packed [] (suc m) = omega arith
  place-packed (Some x ∷ slots) zero = omega arith
  place-packed (Some x ∷ slots) (suc m) = let rest = place-packed slots m in omega arith
  place-packed (None ∷ slots) m = place-packed slots m

  packed_filled : (slots : List (Option A)) (i : ℕ) → i < length (live slots) → slot_mark (slice_get (packed slots) i) ≡ 1
  packed_filled [] i lt = absurd (omega arith)
  packed_filled (Some x ∷ slots) zero lt = refl
  packed_filled (Some x ∷ slots) (suc i) lt = packed_filled slots i (omega arith)
  packed_filled (None ∷ slots) i lt = packed_filled slots i lt

  packed_past : (slots : List (Option A)) (i : ℕ) → length (live slots) ≤ i → slot_mark (slice_get (packed slots) i) ≡ 0
  packed_past [] i le = refl
  packed_past (Some x ∷ slots) zero le = absurd (omega arith)
  packed_past (Some x ∷ slots) (suc i) le = packed_past slots i (omega arith)
  packed_past (None ∷ slots) i le = packed_past slots i le

  pub marks_packed :
      (slots : List (Option A)) (words : List ℕ) (n : ℕ) → n ≡ length (live slots) → ((i : ℕ) → i < n → slot_bit words i ≡ 1)
      → ((i : ℕ) → n ≤ i → slot_bit words i ≡ 0) → n ≤ 64 * length words → AreMarks (packed slots) words
  marks_packed slots words n is marked unmarked covers = record {
    each = λ i. elim (cases_lt i n) [
      | inl lt ↦ marked i lt ∙ sym (packed_filled slots i (omega arith))
      | inr le ↦ unmarked i le ∙ sym (packed_past slots i (omega arith))
    ];
    covering = let len = length-packed slots in omega arith;
  }

  pub counts_packed :
      (slots : List (Option A)) (c : NodeCounts) → c.all ≡ length (live slots)
      → ((end : ℕ) → 0 < end → end ≤ length c.parts.items → 64 * start_of end + part_at c.parts.items end ≡ min (64 * end) c.all)
      → c.all ≤ 64 * length c.parts.items → AreCounts (packed slots) c
  counts_packed slots c is parts covers = record {
    parts = λ end some_there within.
        let part = parts end some_there within in
        let from = place-packed slots (64 * start_of end) in
        let to = place-packed slots (64 * end) in
        let less = start_less end some_there in
        omega arith;
    all = is ∙ sym (ap length (live-packed slots));
    covering = let len = length-packed slots in omega arith;
  }

  -- ---- nodes that are moved

  -- what stays of a slot
  abbrev kept : Option A → List (Option A)
  kept o = cond (is_some o) (o ∷ []) []

  -- a slot farther
  pub packed_some :
      (slots : List (Option A)) (i : ℕ) (o : Option A) (x : A) → i < length slots → o ≡ get_or slots i o → o ≡ Some x
      → packed (take (i + 1) slots) ≡ packed (take i slots) ++ Some x ∷ []
  packed_some slots i o x within read is =
      filter_more is_some slots i o within
      ∙ ap (λ (p : Option A). packed (take i slots) ++ kept p) (sym read ∙ is)

  pub packed_none :
      (slots : List (Option A)) (i : ℕ) (o : Option A) → i < length slots → o ≡ get_or slots i o → o ≡ None → packed (take (i + 1) slots) ≡ packed (take i slots)
  packed_none slots i o within read is =
      filter_more is_some slots i o within
      ∙ (ap (λ (p : Option A). packed (take i slots) ++ kept p) (sym read ∙ is) ∙ append-nil (packed (take i slots)))

  pub packed_few : (slots : List (Option A)) (i : ℕ) → length (packed (take i slots)) ≤ i
  packed_few slots i =
      let same = length-packed (take i slots) in
      let few = length-live-le (take i slots) in
      let taken = length-take i slots in
      omega arith

  pub none_of : (o : Option A) → is_some o ≡ false → o ≡ None
  none_of (Some x) lacks = absurd (cc)
  none_of None lacks = refl

  -- what is left, once the last one is gone
  pub left_more :
      (slots before after : List (Option A)) (o : Option A) → before ≡ take (length before) slots → before ≡ after ++ o ∷ [] → after ≡ take (length after) slots
  left_more slots before after o was is =
      let longer : length before ≡ length after + 1 = ap length is ∙ length-append after (o ∷ []) in
      sym (take-append_seam after (o ∷ []))
      ∙ (ap (take (length after)) (sym is ∙ was) ∙ take-take (length after) (length before) slots (omega arith))

  pub left_none :
      (slots before after : List (Option A)) (o : Option A) (n : ℕ) → before ≡ take (length before) slots → before ≡ after ++ o ∷ []
      → ((i : ℕ) → n ≤ i → get_or slots i None ≡ None) → n < length before → o ≡ None
  left_none slots before after o n was is empty lt =
      let longer : length before ≡ length after + 1 = ap length is ∙ length-append after (o ∷ []) in
      sym (get_or_push after o None (length after) refl)
      ∙ (ap (λ (os : List (Option A)). get_or os (length after) None) (sym is ∙ was)
      ∙ (get_or-take (length before) slots (length after) None (omega arith) ∙ empty (length after) (omega arith)))

  -- slots after those of the nodes are empty, also after a node has changed places with one
  pub empty_swapped :
      (before after : List (Option A)) (to from : ℕ) → SwappedAt before after to from → to ≤ from
      → ((i : ℕ) → to ≤ i → i < from → get_or before i None ≡ None) → (i : ℕ) → to + 1 ≤ i → i < from + 1 → get_or after i None ≡ None
  empty_swapped before after to from s le empty i past within =
      elim (cases_lt i from) [
        | inl lt ↦ s.2 i None (λ e. omega arith) (λ e. omega arith) ∙ empty i (omega arith) lt
        | inr ge ↦ (let here : i ≡ from = omega arith in
            ap (λ (j : ℕ). get_or after j None) here ∙ (s.1 None ∙ empty to (omega arith) (omega arith)))
      ]

  pub empty_more :
      (slots : List (Option A)) (to from : ℕ) (o : Option A) → o ≡ get_or slots from o → from < length slots → o ≡ None
      → ((i : ℕ) → to ≤ i → i < from → get_or slots i None ≡ None) → (i : ℕ) → to ≤ i → i < from + 1 → get_or slots i None ≡ None
  empty_more slots to from o read inside is empty i past within =
      elim (cases_lt i from) [
        | inl lt ↦ empty i past lt
        | inr ge ↦ (let here : i ≡ from = omega arith in
            ap (λ (j : ℕ). get_or slots j None) here ∙ (ap (get_or slots from) (sym is) ∙ (sym read ∙ is)))
      ]

  -- ---- a queue of nodes that stand together

  -- the queue has an entry for each node, and no others
  pub record IsQueueOf (total : A → Option ℕ) (slots : List (Option A)) (q : OpenQueue) : Type 0 where
    pub queued : IsQueued total slots q
    pub orderly : IsQueueOrderly q
    pub single : IsSingle q
    pub latest : IsBelow q (length slots)

  module _ (total : A → Option ℕ) where
    pub queue_push :
        (slots after : List (Option A)) (q r : OpenQueue) (x : A) (t : Option ℕ) (n : ℕ) → IsQueueOf total slots q → t ≡ total x → n ≡ length slots
        → after ≡ slots ++ Some x ∷ [] → IsQueueOrderly r → Has r t n → ((g : Option ℕ) (k : ℕ) → Has q g k → Has r g k)
        → ((g : Option ℕ) (k : ℕ) → Has r g k → Has q g k ⊎ ((t ≡ g) × (n ≡ k))) → IsQueueOf total after r
    queue_push slots after q r x t n o at_total at is orderly added stays only =
        subst (λ (ys : List (Option A)). IsQueueOf total ys r) (sym is) (record {
          queued = queued_push total slots r x (λ k y here. stays (total y) k (o.queued k y here)) added_there;
          orderly = orderly;
          single = single_added q r (total x) (length slots) o.single o.latest only_there;
          latest = subst (λ (m : ℕ). IsBelow r m) (sym (length-append slots (Some x ∷ []))) (below_added q r (total x) (length slots) o.latest only_there);
        })
      where
        added_there : Has r (total x) (length slots)
        added_there = subst (λ (k : ℕ). Has r (total x) k) at (subst (λ (u : Option ℕ). Has r u n) at_total added)

        only_there : (g : Option ℕ) (k : ℕ) → Has r g k → Has q g k ⊎ ((total x ≡ g) × (length slots ≡ k))
        only_there g k has = ⊎_elim (λ old. inl old) (λ new. inr (sym at_total ∙ new.0, sym at ∙ new.1)) (only g k has)
