-- Tests of the elements of a list: whether some passes, which does first and where it stands, how
-- many do.
use Rattle.std.proofs.Common.{◌≡◌, ℕ, suc, ◌+◌, ◌*◌, ◌<◌, nat_lt, not, ◌||◌, Bool, true, false, cond, List, [], ◌∷◌, ◌++◌, map, set, replicate, length, get_or, Contains, Some, None, inl, inr, refl, sym, ap, ◌∙◌, subst, arith}
use Rattle.std.specs.List.{list_any, list_all, prefix_len, position, position_or_len, take_while, count_by, find}
use Rattle.std.proofs.lemmas.Bool.{and_from, lt-ltb, ltb-true, ne_eqb, cond-false}
use Rattle.std.proofs.lemmas.List.{length-map}
use Rattle.std.proofs.lemmas.List.Folds.{fold-map, list_any-from_Any, prefix_len-append, sum_by-replicate}
use Rattle.std.proofs.lemmas.List.Sums.{sum_by-set, sum_by-append}
use Rattle.std.proofs.lemmas.Option.{none-some, same_Some}
use Rattle.hd_base.proofs.Members.{Contains-first, Contains-later, Contains-cons_cases, Contains-nil}
use Rattle.hd_base.proofs.Numbers.{nat_lt-suc}

pub list_any-map : {X Y : Type 0} (p : Y → Bool) (f : X → Y) (xs : List X) → list_any p (map f xs) ≡ list_any (λ x. p (f x)) xs
list_any-map p f [] = refl
list_any-map p f (x ∷ xs) = ap (λ b. p (f x) || b) (list_any-map p f xs)

pub list_any-from_contains : {X : Type 0} (p : X → Bool) (xs : List X) (x : X) → Contains xs x → p x ≡ true → list_any p xs ≡ true
list_any-from_contains p xs x c e = list_any-from_Any p xs (c.0, x, c.1, c.2, e)

pub prefix_len-map : {X Y : Type 0} (p : Y → Bool) (f : X → Y) (xs : List X) → prefix_len p (map f xs) ≡ prefix_len (λ x. p (f x)) xs
prefix_len-map p f [] = refl
prefix_len-map p f (x ∷ xs) = ap (λ n. cond (p (f x)) (1 + n) 0) (prefix_len-map p f xs)

pub position-map : {X Y : Type 0} (p : Y → Bool) (f : X → Y) (xs : List X) → position p (map f xs) ≡ position (λ x. p (f x)) xs
position-map p f xs =
    let place = prefix_len-map (λ y. not (p y)) f xs in
    rw (place, length-map xs f) refl

passes_more : {X : Type 0} (p : X → Bool) (x : X) (xs : List X) (b : Bool) → p x ≡ b → list_all p (take_while p xs) ≡ true → list_all p (take_while p (x ∷ xs)) ≡ true
passes_more p x xs true e more =
    let one : 1 + prefix_len p xs ≡ suc (prefix_len p xs) = omega arith in
    rw (e, one, e) more
passes_more p x xs false e more = rw e refl

pub list_all-take_while : {X : Type 0} (p : X → Bool) (xs : List X) → list_all p (take_while p xs) ≡ true
list_all-take_while p [] = refl
list_all-take_while p (x ∷ xs) = passes_more p x xs (p x) refl (list_all-take_while p xs)

-- a test that some element passes, by the place of the first
pub nat_lt-position_or_len : {X : Type 0} (p : X → Bool) (xs : List X) → nat_lt (position_or_len p xs) (length xs) ≡ list_any p xs
nat_lt-position_or_len p [] = refl
nat_lt-position_or_len p (x ∷ xs) =
    elim (p x) as (λ b. nat_lt (cond (not b) (1 + position_or_len p xs) 0) (length (x ∷ xs)) ≡ (b || list_any p xs)) [
      | true ↦ lt-ltb 0 (suc (length xs)) (omega arith)
      | false ↦
          let next : 1 + position_or_len p xs ≡ suc (position_or_len p xs) = omega arith in
          ap (λ n. nat_lt n (suc (length xs))) next ∙ (nat_lt-suc (position_or_len p xs) (length xs) ∙ nat_lt-position_or_len p xs)
    ]

pub position_or_len-lt : {X : Type 0} (p : X → Bool) (xs : List X) → list_any p xs ≡ true → position_or_len p xs < length xs
position_or_len-lt p xs e = ltb-true (position_or_len p xs) (length xs) (nat_lt-position_or_len p xs ∙ e)

pub position_or_len-append_left : {X : Type 0} (p : X → Bool) (xs ys : List X) → position_or_len p xs < length xs → position_or_len p (xs ++ ys) ≡ position_or_len p xs
position_or_len-append_left p xs ys h =
    prefix_len-append (λ x. not (p x)) xs ys
    ∙ cond-false _ (length xs + position_or_len p ys) (position_or_len p xs) (ne_eqb (position_or_len p xs) (length xs) (λ e. omega arith))

pub count_by-map : {X Y : Type 0} (p : Y → Bool) (f : X → Y) (xs : List X) → count_by p (map f xs) ≡ count_by (λ x. p (f x)) xs
count_by-map {Y = Y} p f xs = fold-map (λ (a : ℕ) (y : Y). a + cond (p y) 1 0) f 0 xs

pub count_by-append : {X : Type 0} (p : X → Bool) (xs ys : List X) → count_by p (xs ++ ys) ≡ count_by p xs + count_by p ys
count_by-append p xs ys = sum_by-append (λ x. cond (p x) 1 0) xs ys

-- one more passes
pub count_by-set : {X : Type 0} (p : X → Bool) (xs : List X) (i : ℕ) (y d : X) → i < length xs → p (get_or xs i d) ≡ false → p y ≡ true → count_by p (set xs i y) ≡ count_by p xs + 1
count_by-set {X} p xs i y d lt was now =
    let f : X → ℕ = λ x. cond (p x) 1 0 in
    let before : f (get_or xs i d) ≡ 0 = ap (λ (b : Bool). cond b 1 0) was in
    let after : f y ≡ 1 = ap (λ (b : Bool). cond b 1 0) now in
    omega (arith, before, after, sum_by-set f xs i y d lt)

pub count_by-replicate_none : {X : Type 0} (p : X → Bool) (n : ℕ) (x : X) → p x ≡ false → count_by p (replicate n x) ≡ 0
count_by-replicate_none p n x e =
    sum_by-replicate (λ y. cond (p y) 1 0) n x ∙ (ap (λ (b : Bool). n * cond b 1 0) e ∙ omega arith)

-- ---- look-ups, and each element

-- what a look-up finds is there and passes
pub find-Some : {X : Type 0} (p : X → Bool) (xs : List X) (x : X) → find p xs ≡ Some x → Contains xs x × (p x ≡ true)
find-Some p [] x e = absurd (none-some x e)
find-Some p (y ∷ xs) x e =
    elim (p y) as (λ b. p y ≡ b → (cond b (Some y) (find p xs)) ≡ Some x → Contains (y ∷ xs) x × (p x ≡ true)) [
      | true ↦ λ passes e.
          let same : y ≡ x = same_Some y x e in
          (subst (Contains (y ∷ xs)) same (Contains-first y xs), ap p (sym same) ∙ passes)
      | false ↦ λ _ e. let k = find-Some p xs x e in (Contains-later y xs x k.0, k.1)
    ] refl e

-- where a look-up finds nothing, nothing passes
pub find-None : {X : Type 0} (p : X → Bool) (xs : List X) (x : X) → find p xs ≡ None → Contains xs x → p x ≡ false
find-None p [] x e c = absurd (Contains-nil x c)
find-None p (y ∷ xs) x e c =
    elim (p y) as (λ b. p y ≡ b → (cond b (Some y) (find p xs)) ≡ None → p x ≡ false) [
      | true ↦ λ _ e. absurd (none-some y (sym e))
      | false ↦ λ fails e. elim (Contains-cons_cases y xs x c) [ inl same ↦ ap p (sym same) ∙ fails | inr c ↦ find-None p xs x e c ]
    ] refl e

pub list_all-from_each : {X : Type 0} (p : X → Bool) (xs : List X) → ((x : X) → Contains xs x → p x ≡ true) → list_all p xs ≡ true
list_all-from_each p [] each = refl
list_all-from_each p (x ∷ xs) each =
    and_from (p x) (list_all p xs) (each x (Contains-first x xs)) (list_all-from_each p xs (λ y c. each y (Contains-later x xs y c)))
