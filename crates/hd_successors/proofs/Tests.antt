-- The first element of a rising list that passes, and how many do.
use Rattle.std.proofs.Common.{◌≡◌, ℕ, zero, suc, ◌+◌, ◌<◌, ◌≤◌, nat_le, Bool, true, false, cond, ◌&&◌, ◌∷◌, filter, length, inl, inr, refl, sym, ap, ◌∙◌, arith, true≢false}
use Rattle.std.specs.Prelude.{Some, None, find}
use Rattle.std.specs.List.{range_with_len}
use Rattle.std.proofs.lemmas.Bool.{cases_eq, cases_lt, le-leb, lt-leb, leb-true, leb-false, and_left, and_right, false_from_ne_true}
use Rattle.std.proofs.lemmas.Option.{none-some, same_Some}
use Rattle.hd_base.proofs.Members.{Contains-filter, Contains-range_with_len}
use Rattle.hd_base.proofs.Tests.{find-None}

-- what passes first, of the numbers that a test keeps
pub find_first : (f : ℕ → Bool) (k a from n : ℕ) → a ≤ n → n < a + k → from ≤ n → f n ≡ true → ((m : ℕ) → from ≤ m → m < n → f m ≡ false)
    → find (nat_le from) (filter f (range_with_len a k)) ≡ Some n
find_first f zero a from n le lt far is before = absurd (omega (arith, le, lt))
find_first f (suc k) a from n le lt far is before =
    elim (cases_eq a n) [
      | inl same ↦
          let passes : nat_le from a ≡ true = le-leb from a (omega (arith, far, same)) in
          ap (λ b. find (nat_le from) (cond b (a ∷ filter f (range_with_len (a + 1) k)) (filter f (range_with_len (a + 1) k)))) (ap f same ∙ is)
          ∙ (ap (λ b. cond b (Some a) (find (nat_le from) (filter f (range_with_len (a + 1) k)))) passes ∙ ap Some same)
      | inr other ↦
          let more = find_first f k (a + 1) from n (omega (arith, le, other)) (omega (arith, lt)) far is before in
          elim (f a) as (λ b. f a ≡ b → find (nat_le from) (cond b (a ∷ filter f (range_with_len (a + 1) k)) (filter f (range_with_len (a + 1) k))) ≡ Some n) [
            | true ↦ λ e.
                elim (cases_lt a from) [
                  | inl low ↦ ap (λ b. cond b (Some a) (find (nat_le from) (filter f (range_with_len (a + 1) k)))) (lt-leb from a low) ∙ more
                  | inr high ↦ absurd (true≢false (sym e ∙ before a high (omega (arith, le, other))))
                ]
            | false ↦ λ e. more
          ] refl
    ]

pub find_none : (f : ℕ → Bool) (k a from : ℕ) → ((m : ℕ) → from ≤ m → m < a + k → f m ≡ false) → find (nat_le from) (filter f (range_with_len a k)) ≡ None
find_none f zero a from none = refl
find_none f (suc k) a from none =
    let more = find_none f k (a + 1) from (λ m le lt. none m le (omega (arith, lt))) in
    elim (f a) as (λ b. f a ≡ b → find (nat_le from) (cond b (a ∷ filter f (range_with_len (a + 1) k)) (filter f (range_with_len (a + 1) k))) ≡ None) [
      | true ↦ λ e.
          elim (cases_lt a from) [
            | inl low ↦ ap (λ b. cond b (Some a) (find (nat_le from) (filter f (range_with_len (a + 1) k)))) (lt-leb from a low) ∙ more
            | inr high ↦ absurd (true≢false (sym e ∙ none a high (omega arith)))
          ]
      | false ↦ λ e. more
    ] refl

-- what is found is from there on, and one of the numbers
pub found_within : (f : ℕ → Bool) (k a from n : ℕ) → find (nat_le from) (filter f (range_with_len a k)) ≡ Some n → (from ≤ n) × (n < a + k)
found_within f zero a from n e = absurd (none-some n e)
found_within f (suc k) a from n e =
    let more : find (nat_le from) (filter f (range_with_len (a + 1) k)) ≡ Some n → (from ≤ n) × (n < a + suc k) =
    λ e. let h = found_within f k (a + 1) from n e in (h.0, let lt = h.1 in omega (arith, lt)) in
    elim (f a) as (λ b. find (nat_le from) (cond b (a ∷ filter f (range_with_len (a + 1) k)) (filter f (range_with_len (a + 1) k))) ≡ Some n → (from ≤ n) × (n < a + suc k)) [
      | true ↦ λ e.
          elim (nat_le from a) as (λ b. nat_le from a ≡ b → cond b (Some a) (find (nat_le from) (filter f (range_with_len (a + 1) k))) ≡ Some n → (from ≤ n) × (n < a + suc k)) [
            | true ↦ λ le e. let same = same_Some a n e in let h = leb-true from a le in (omega (arith, h, same), omega (arith, same))
            | false ↦ λ _ e. more e
          ] refl e
      | false ↦ more
    ] e

-- what is found is one of the numbers
found_above : (f : ℕ → Bool) (k a from n : ℕ) → find (nat_le from) (filter f (range_with_len a k)) ≡ Some n → a ≤ n
found_above f zero a from n e = absurd (none-some n e)
found_above f (suc k) a from n e =
    let more : find (nat_le from) (filter f (range_with_len (a + 1) k)) ≡ Some n → a ≤ n = λ e. let h = found_above f k (a + 1) from n e in omega (arith, h) in
    elim (f a) as (λ b. find (nat_le from) (cond b (a ∷ filter f (range_with_len (a + 1) k)) (filter f (range_with_len (a + 1) k))) ≡ Some n → a ≤ n) [
      | true ↦ λ e.
          elim (nat_le from a) as (λ b. cond b (Some a) (find (nat_le from) (filter f (range_with_len (a + 1) k))) ≡ Some n → a ≤ n) [
            | true ↦ λ e. let same = same_Some a n e in omega (arith, same)
            | false ↦ more
          ] e
      | false ↦ more
    ] e

-- before what is found nothing passes
pub none_before_found : (f : ℕ → Bool) (k a from n m : ℕ) → find (nat_le from) (filter f (range_with_len a k)) ≡ Some n → a ≤ m → from ≤ m → m < n → f m ≡ false
none_before_found f zero a from n m e le far lt = absurd (none-some n e)
none_before_found f (suc k) a from n m e le far lt =
    elim (f a) as (λ b. f a ≡ b → find (nat_le from) (cond b (a ∷ filter f (range_with_len (a + 1) k)) (filter f (range_with_len (a + 1) k))) ≡ Some n → f m ≡ false) [
      | true ↦ λ is e.
          elim (nat_le from a) as (λ b. nat_le from a ≡ b → cond b (Some a) (find (nat_le from) (filter f (range_with_len (a + 1) k))) ≡ Some n → f m ≡ false) [
            | true ↦ λ _ e. absurd (let same = same_Some a n e in omega (arith, same, le, lt))
            | false ↦ λ low e. let h = leb-false from a low in none_before_found f k (a + 1) from n m e (omega (arith, h, far)) far lt
          ] refl e
      | false ↦ λ is e.
          elim (cases_eq m a) [
            | inl same ↦ ap f same ∙ is
            | inr other ↦ none_before_found f k (a + 1) from n m e (omega (arith, le, other)) far lt
          ]
    ] refl e

-- if nothing is found, nothing passes from there on
pub none_where_none_found : (f : ℕ → Bool) (k from m : ℕ) → find (nat_le from) (filter f (range_with_len 0 k)) ≡ None → from ≤ m → m < k → f m ≡ false
none_where_none_found f k from m e far lt =
    false_from_ne_true (f m) (λ is.
    true≢false (sym (le-leb from m far) ∙ find-None (nat_le from) (filter f (range_with_len 0 k)) m e (Contains-filter f (range_with_len 0 k) m (Contains-range_with_len k m lt) is)))

-- ---- how many

-- how many numbers pass, of k from a on, that are no less than another
abbrev pub left_from : (ℕ → Bool) → ℕ → ℕ → ℕ → ℕ
left_from f k a from = length (filter (λ m. nat_le from m && f m) (range_with_len a k))

-- one number before others: it counts where both tests pass
left_step : (f : ℕ → Bool) (k a from : ℕ) (b : Bool) → (nat_le from a && f a) ≡ b
    → left_from f (suc k) a from ≡ cond b (suc (left_from f k (a + 1) from)) (left_from f k (a + 1) from)
left_step f k a from true e =
    ap (λ b. length (cond b (a ∷ filter (λ m. nat_le from m && f m) (range_with_len (a + 1) k)) (filter (λ m. nat_le from m && f m) (range_with_len (a + 1) k)))) e
left_step f k a from false e =
    ap (λ b. length (cond b (a ∷ filter (λ m. nat_le from m && f m) (range_with_len (a + 1) k)) (filter (λ m. nat_le from m && f m) (range_with_len (a + 1) k)))) e

pub left_all : (f : ℕ → Bool) (k a from : ℕ) → from ≤ a → left_from f k a from ≡ length (filter f (range_with_len a k))
left_all f zero a from le = refl
left_all f (suc k) a from le =
    let more = left_all f k (a + 1) from (omega (arith, le)) in
    let reached : nat_le from a ≡ true = le-leb from a le in
    elim (f a) as (λ b. f a ≡ b → left_from f (suc k) a from ≡ length (cond b (a ∷ filter f (range_with_len (a + 1) k)) (filter f (range_with_len (a + 1) k)))) [
      | true ↦ λ e. left_step f k a from true (ap (λ b. b && f a) reached ∙ e) ∙ ap suc more
      | false ↦ λ e. left_step f k a from false (ap (λ b. b && f a) reached ∙ e) ∙ more
    ] refl

-- if nothing is found, nothing is left
pub left_none : (f : ℕ → Bool) (k a from : ℕ) → find (nat_le from) (filter f (range_with_len a k)) ≡ None → left_from f k a from ≡ 0
left_none f zero a from e = refl
left_none f (suc k) a from e =
    elim (f a) as (λ b. f a ≡ b → find (nat_le from) (cond b (a ∷ filter f (range_with_len (a + 1) k)) (filter f (range_with_len (a + 1) k))) ≡ None → left_from f (suc k) a from ≡ 0) [
      | true ↦ λ is e.
          elim (nat_le from a) as (λ b. nat_le from a ≡ b → cond b (Some a) (find (nat_le from) (filter f (range_with_len (a + 1) k))) ≡ None → left_from f (suc k) a from ≡ 0) [
            | true ↦ λ _ e. absurd (none-some a (sym e))
            | false ↦ λ low e. left_step f k a from false (and_left (nat_le from a) (f a) low) ∙ left_none f k (a + 1) from e
          ] refl e
      | false ↦ λ is e. left_step f k a from false (and_right (nat_le from a) (f a) is) ∙ left_none f k (a + 1) from e
    ] refl e

-- what is left from what is found on: that, and what is left behind it
pub left_next : (f : ℕ → Bool) (k a from n : ℕ) → find (nat_le from) (filter f (range_with_len a k)) ≡ Some n → left_from f k a from ≡ suc (left_from f k a (n + 1))
left_next f zero a from n e = absurd (none-some n e)
left_next f (suc k) a from n e =
    let skips : find (nat_le from) (filter f (range_with_len (a + 1) k)) ≡ Some n → (nat_le from a && f a) ≡ false → left_from f (suc k) a from ≡ suc (left_from f (suc k) a (n + 1)) =
    λ e passed.
    let above = found_above f k (a + 1) from n e in
    let before : nat_le (n + 1) a ≡ false = lt-leb (n + 1) a (omega (arith, above)) in
    left_step f k a from false passed
    ∙ (left_next f k (a + 1) from n e ∙ ap suc (sym (left_step f k a (n + 1) false (and_left (nat_le (n + 1) a) (f a) before)))) in
    elim (f a) as (λ b. f a ≡ b → find (nat_le from) (cond b (a ∷ filter f (range_with_len (a + 1) k)) (filter f (range_with_len (a + 1) k))) ≡ Some n → left_from f (suc k) a from ≡ suc (left_from f (suc k) a (n + 1))) [
      | true ↦ λ is e.
          elim (nat_le from a) as (λ b. nat_le from a ≡ b → cond b (Some a) (find (nat_le from) (filter f (range_with_len (a + 1) k))) ≡ Some n → left_from f (suc k) a from ≡ suc (left_from f (suc k) a (n + 1))) [
            | true ↦ λ le e.
                let same = same_Some a n e in
                let far = leb-true from a le in
                let before : nat_le (n + 1) a ≡ false = lt-leb (n + 1) a (omega (arith, same)) in
                left_step f k a from true (ap (λ b. b && f a) le ∙ is)
                ∙ ap suc
                (left_all f k (a + 1) from (omega (arith, far))
                ∙ sym (left_step f k a (n + 1) false (and_left (nat_le (n + 1) a) (f a) before) ∙ left_all f k (a + 1) (n + 1) (omega (arith, same))))
            | false ↦ λ low e. skips e (and_left (nat_le from a) (f a) low)
          ] refl e
      | false ↦ λ is e. skips e (and_right (nat_le from a) (f a) is)
    ] refl e
