-- Entries from a number on.
use Rattle.std.proofs.Common.{◌≡◌, ℕ, zero, suc, ◌+◌, ◌-◌, ◌<◌, ◌≤◌, Bool, true, false, cond, ◌==◌, ◌&&◌, Some, None, List, [], ◌∷◌, ◌++◌, length, take, drop, get_or, slice_get, refl, sym, ap, ◌∙◌, arith}
use Rattle.std.specs.declared.ops.Range.{Range}
use Rattle.std.proofs.lemmas.Option.{none-some, same_Some, slice_get_past}
use Rattle.std.proofs.Math.Seq.{drop-cons}
use Rattle.hd_task.specs.declared.plan.Kid.{Kid}
use Rattle.hd_book.specs.Queue.{QueueView, group_end, group_next, with_group}
use Rattle.hd_book.specs.Groups.{entries_between, is_kid, begins_with}

-- one successor and the others
pub begins_step : (k : Kid) (kids entries : List Kid) (n : ℕ) → begins_with (k ∷ kids) (drop n entries) ≡ (is_kid k (slice_get entries n) && begins_with kids (drop (suc n) entries))
begins_step k kids [] zero = refl
begins_step k kids [] (suc n) = refl
begins_step k kids (e ∷ entries) zero = refl
begins_step k kids (e ∷ entries) (suc n) = begins_step k kids entries n

-- a successor that is there is passed
pub begins_on : (k : Kid) (kids entries : List Kid) (n m : ℕ) → m ≡ n + 1 → is_kid k (slice_get entries n) ≡ true → begins_with (k ∷ kids) (drop n entries) ≡ begins_with kids (drop m entries)
begins_on k kids entries n m e is =
    let next : suc n ≡ m = omega (arith, e) in
    begins_step k kids entries n ∙ (ap (λ v. v && begins_with kids (drop (suc n) entries)) is ∙ ap (λ (i : ℕ). begins_with kids (drop i entries)) next)

-- a successor that is not there ends it
pub begins_not : (k : Kid) (kids entries : List Kid) (n : ℕ) → is_kid k (slice_get entries n) ≡ false → begins_with (k ∷ kids) (drop n entries) ≡ false
begins_not k kids entries n is = begins_step k kids entries n ∙ ap (λ v. v && begins_with kids (drop (suc n) entries)) is

pub begins_at : (kids entries : List Kid) (i n : ℕ) (d : Kid) → i < length kids → is_kid (get_or kids i d) (slice_get entries n) ≡ true → begins_with (drop i kids) (drop n entries) ≡ begins_with (drop (i + 1) kids) (drop (n + 1) entries)
begins_at kids entries i n d h e =
    let next : suc i ≡ i + 1 = omega arith in
    ap (λ ks. begins_with ks (drop n entries)) (drop-cons kids i d h)
    ∙ (begins_on (get_or kids i d) (drop (suc i) kids) entries n (n + 1) refl e ∙ ap (λ (j : ℕ). begins_with (drop j kids) (drop (n + 1) entries)) next)

pub begins_at_not : (kids entries : List Kid) (i n : ℕ) (d : Kid) → i < length kids → is_kid (get_or kids i d) (slice_get entries n) ≡ false → begins_with (drop i kids) (drop n entries) ≡ false
begins_at_not kids entries i n d h e = ap (λ ks. begins_with ks (drop n entries)) (drop-cons kids i d h) ∙ begins_not (get_or kids i d) (drop (suc i) kids) entries n e

-- nor is there one after the last entry
pub begins_past : (kids entries : List Kid) (i n : ℕ) → i < length kids → length entries ≤ n → begins_with (drop i kids) (drop n entries) ≡ false
begins_past kids entries i n h past =
    let d : Kid = record { parent = 0; action = 0 } in
    begins_at_not kids entries i n d h (ap (is_kid (get_or kids i d)) (slice_get_past entries n past))

module _ {X : Type 0} where
  -- the first ones and one more
  take_one_more : (xs : List X) (n : ℕ) (x : X) → slice_get xs n ≡ Some x → take (suc n) xs ≡ take n xs ++ x ∷ []
  take_one_more [] n x e = absurd (none-some x e)
  take_one_more (y ∷ xs) zero x e = ap (λ z. z ∷ []) (same_Some y x e)
  take_one_more (y ∷ xs) (suc n) x e = ap (λ zs. y ∷ zs) (take_one_more xs n x e)

  get_behind : (xs : List X) (first n : ℕ) → slice_get (drop first xs) n ≡ slice_get xs (first + n)
  get_behind xs zero n = let e : n ≡ zero + n = omega arith in ap (slice_get xs) e
  get_behind [] (suc first) n = refl
  get_behind (x ∷ xs) (suc first) n =
      let e : suc first + n ≡ suc (first + n) = omega arith in
      get_behind xs first n ∙ sym (ap (slice_get (x ∷ xs)) e)

-- the entries up to one more
pub between_more : (entries : List Kid) (first n m : ℕ) (k : Kid) → first ≤ n → m ≡ n + 1 → slice_get entries n ≡ Some k → entries_between entries first m ≡ entries_between entries first n ++ k ∷ []
between_more entries first n m k h e is =
    let size : m - first ≡ suc (n - first) = omega (arith, h, e) in
    let at : first + (n - first) ≡ n = omega (arith, h) in
    ap (λ (i : ℕ). take i (drop first entries)) size
    ∙ take_one_more (drop first entries) (n - first) k (get_behind entries first (n - first) ∙ (ap (slice_get entries) at ∙ is))

-- no entries
pub between_none : (entries : List Kid) (first : ℕ) → entries_between entries first first ≡ []
between_none entries first =
    let size : first - first ≡ zero = omega arith in
    ap (λ (i : ℕ). take i (drop first entries)) size

-- ---- groups

starts_by : (v w : Bool) (g r : Range ℕ) → Some r ≡ cond v (cond w None (Some g)) None → r.start ≡ g.start
starts_by true true g r e = absurd (none-some r (sym e))
starts_by true false g r e = ap (λ (x : Range ℕ). x.start) (same_Some r g e)
starts_by false w g r e = absurd (none-some r (sym e))

-- a group begins after what is acknowledged
pub group_starts : (q : QueueView) (r : Range ℕ) → Some r ≡ group_next q → r.start ≡ q.acknowledged
group_starts q r e = starts_by (q.out == 0) ((with_group q).out == 0) (record { start = q.acknowledged; end = group_end (with_group q) }) r e
