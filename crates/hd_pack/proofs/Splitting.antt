-- Split bytes, segment by segment.
use Rattle.std.proofs.Common.{◌≡◌, ℕ, zero, suc, ◌+◌, ◌-◌, ◌≤◌, Bool, true, false, true≢false, not, List, [], ◌∷◌, ◌++◌, length, take, drop, get_or, refl, sym, ap, ap₂, ◌∙◌, subst, arith, length-append, length-drop, length-take-le}
use Rattle.std.specs.Prelude.{◌&&◌, nat_eq}
use Rattle.std.specs.Cmp.Lexicographic.{pointwise}
use Rattle.std.proofs.lemmas.List.{take-append-drop, take-append-le}
use Rattle.hd_pack.specs.declared.split.Segment.{Segment}
use Rattle.std.proofs.lemmas.Bool.Decides.{Decides-eqb}
use Rattle.std.proofs.lemmas.Slice.Eq.{slice_eq-Decides}
use Rattle.hd_pack.specs.Splitting.{agrees, merged, own_bytes, own_width, AreInside, AreWithin}

and_assoc : (a b c : Bool) → ((a && b) && c) ≡ (a && (b && c))
and_assoc true b c = refl
and_assoc false b c = refl

and-true : (a b : Bool) → (a && b) ≡ true → (a ≡ true) × (b ≡ true)
and-true true b e = (refl, e)
and-true false b e = absurd (true≢false (sym e))

and_false : (a : Bool) → (a && false) ≡ false
and_false true = refl
and_false false = refl

equal_append : (xs ys zs ws : List ℕ) → length xs ≡ length zs → pointwise nat_eq (xs ++ ys) (zs ++ ws) ≡ (pointwise nat_eq xs zs && pointwise nat_eq ys ws)
equal_append [] ys [] ws e = refl
equal_append [] ys (z ∷ zs) ws e = absurd (omega (arith, e))
equal_append (x ∷ xs) ys [] ws e = absurd (omega (arith, e))
equal_append (x ∷ xs) ys (z ∷ zs) ws e =
    ap (λ (b : Bool). nat_eq x z && b) (equal_append xs ys zs ws (omega (arith, e)))
    ∙ sym (and_assoc (nat_eq x z) (pointwise nat_eq xs zs) (pointwise nat_eq ys ws))

module _ (p : Segment) (ps : List Segment) (base own bytes : List ℕ) (le : p.shared + p.own ≤ length base) (many : p.own ≤ length own) (same : length bytes ≡ length base) where
  equal_step :
      pointwise nat_eq (merged (p ∷ ps) base own) bytes
      ≡ (pointwise nat_eq (take p.shared base) (take p.shared bytes)
      && (pointwise nat_eq (take p.own own) (take p.own (drop p.shared bytes))
      && pointwise nat_eq (merged ps (drop p.own (drop p.shared base)) (drop p.own own)) (drop p.own (drop p.shared bytes))))
  equal_step =
      let rest = merged ps (drop p.own (drop p.shared base)) (drop p.own own) in
      let first = length-take-le p.shared base (omega (arith, le)) in
      let first' = length-take-le p.shared bytes (omega (arith, le, same)) in
      let left = length-drop p.shared bytes in
      let second = length-take-le p.own own many in
      let second' = length-take-le p.own (drop p.shared bytes) (omega (arith, le, same, left)) in
      ap (pointwise nat_eq (merged (p ∷ ps) base own)) (sym (take-append-drop p.shared bytes))
      ∙ (equal_append (take p.shared base) (take p.own own ++ rest) (take p.shared bytes) (drop p.shared bytes) (first ∙ sym first')
      ∙ ap (λ (b : Bool). pointwise nat_eq (take p.shared base) (take p.shared bytes) && b)
      (ap (pointwise nat_eq (take p.own own ++ rest)) (sym (take-append-drop p.own (drop p.shared bytes)))
      ∙ equal_append (take p.own own) rest (take p.own (drop p.shared bytes)) (drop p.own (drop p.shared bytes)) (second ∙ sym second')))

-- the first segment
abbrev pub first_of : List Segment → Segment
first_of ps = get_or ps 0 (record { shared = 0; own = 0 })

-- by the first segment
equal_first :
    (ps : List Segment) (base own bytes : List ℕ) → 1 ≤ length ps → AreWithin ps base own → length bytes ≡ length base
    → (let p = first_of ps in
    pointwise nat_eq (merged ps base own) bytes
    ≡ (pointwise nat_eq (take p.shared base) (take p.shared bytes)
    && (pointwise nat_eq (take p.own own) (take p.own (drop p.shared bytes))
    && pointwise nat_eq (merged (drop 1 ps) (drop p.own (drop p.shared base)) (drop p.own own)) (drop p.own (drop p.shared bytes)))))
equal_first [] base own bytes lt within same = absurd (omega (arith, lt))
equal_first (p ∷ ps) base own bytes lt within same = equal_step p ps base own bytes within.0 within.1 same

-- base, own bytes and bytes, each cut at the first segment
pub record AreCut (p : Segment) (base own bytes shared rest base' here own' first rest' second bytes' : List ℕ) : Type 0 where
  pub shared_is : shared ≡ take p.shared base
  pub rest_is : rest ≡ drop p.shared base
  pub base_is : base' ≡ drop p.own rest
  pub here_is : here ≡ take p.own own
  pub own_is : own' ≡ drop p.own own
  pub first_is : first ≡ take p.shared bytes
  pub rest'_is : rest' ≡ drop p.shared bytes
  pub second_is : second ≡ take p.own rest'
  pub bytes_is : bytes' ≡ drop p.own rest'

module _ (ps : List Segment) (base own bytes shared rest base' here own' first rest' second bytes' : List ℕ) (lt : 1 ≤ length ps) (within : AreWithin ps base own) (same : length bytes ≡ length base) (cut : AreCut (first_of ps) base own bytes shared rest base' here own' first rest' second bytes') where
  equal_parts :
      pointwise nat_eq (merged ps base own) bytes
      ≡ (pointwise nat_eq shared first && (pointwise nat_eq here second && pointwise nat_eq (merged (drop 1 ps) base' own') bytes'))
  equal_parts =
      let p = first_of ps in
      equal_first ps base own bytes lt within same
      ∙ ap₂ (λ (a b : Bool). a && b) (ap₂ (pointwise nat_eq) (sym cut.shared_is) (sym cut.first_is))
      (ap₂ (λ (a b : Bool). a && b) (ap₂ (pointwise nat_eq) (sym cut.here_is) (sym (cut.second_is ∙ ap (take p.own) cut.rest'_is)))
      (ap₂ (pointwise nat_eq) (ap₂ (merged (drop 1 ps)) (sym (cut.base_is ∙ ap (drop p.own) cut.rest_is)) (sym cut.own_is))
      (sym (cut.bytes_is ∙ ap (drop p.own) cut.rest'_is))))

  pub first_differs : pointwise nat_eq shared first ≡ false → false ≡ pointwise nat_eq (merged ps base own) bytes
  first_differs a = sym (equal_parts ∙ ap (λ (x : Bool). x && (pointwise nat_eq here second && pointwise nat_eq (merged (drop 1 ps) base' own') bytes')) a)

  pub second_differs : pointwise nat_eq shared first ≡ true → pointwise nat_eq here second ≡ false → false ≡ pointwise nat_eq (merged ps base own) bytes
  second_differs a b =
      sym (equal_parts
      ∙ ap₂ (λ (x y : Bool). x && (y && pointwise nat_eq (merged (drop 1 ps) base' own') bytes')) a b)

  pub rest_decides : pointwise nat_eq shared first ≡ true → pointwise nat_eq here second ≡ true → pointwise nat_eq (merged (drop 1 ps) base' own') bytes' ≡ pointwise nat_eq (merged ps base own) bytes
  rest_decides a b =
      sym (equal_parts
      ∙ ap₂ (λ (x y : Bool). x && (y && pointwise nat_eq (merged (drop 1 ps) base' own') bytes')) a b)

pub not_true : (b : Bool) → true ≡ not b → b ≡ false
not_true true e = e
not_true false e = refl

pub not_false : (b : Bool) → false ≡ not b → b ≡ true
not_false true e = refl
not_false false e = e

-- all bytes are as many as those of the base
pub length-merged : (ps : List Segment) (base own : List ℕ) → AreWithin ps base own → length (merged ps base own) ≡ length base
length-merged [] base own within = refl
length-merged (p ∷ ps) base own within =
    let rest = merged ps (drop p.own (drop p.shared base)) (drop p.own own) in
    let more = length-merged ps (drop p.own (drop p.shared base)) (drop p.own own) within.2 in
    let le = within.0 in
    let many = within.1 in
    let a = length-append (take p.shared base) (take p.own own ++ rest) in
    let b = length-append (take p.own own) rest in
    let c = length-take-le p.shared base (omega (arith, le)) in
    let d = length-take-le p.own own many in
    let e = length-drop p.shared base in
    let f = length-drop p.own (drop p.shared base) in
    omega (arith, more, le, a, b, c, d, e, f)

pub differ_length : (xs ys : List ℕ) → (length ys ≡ length xs → ⊥) → pointwise nat_eq xs ys ≡ false
differ_length [] [] other = absurd (other refl)
differ_length [] (y ∷ ys) other = refl
differ_length (x ∷ xs) [] other = refl
differ_length (x ∷ xs) (y ∷ ys) other = ap (λ (b : Bool). nat_eq x y && b) (differ_length xs ys (λ e. other (ap suc e))) ∙ and_false (nat_eq x y)

-- ---- the own bytes among all

pub inside_as : (ps : List Segment) (base bytes : List ℕ) → length bytes ≡ length base → AreInside ps base → AreInside ps bytes
inside_as [] base bytes same inside = tt
inside_as (p ∷ ps) base bytes same inside =
    let le = inside.0 in
    let a = length-drop p.shared base in
    let b = length-drop p.own (drop p.shared base) in
    let c = length-drop p.shared bytes in
    let d = length-drop p.own (drop p.shared bytes) in (
      omega (arith, le, same),
      inside_as ps (drop p.own (drop p.shared base)) (drop p.own (drop p.shared bytes)) (omega (arith, same, a, b, c, d)) inside.1,
    )

pub length-own : (ps : List Segment) (bytes : List ℕ) → AreInside ps bytes → length (own_bytes ps bytes) ≡ own_width ps
length-own [] bytes inside = refl
length-own (p ∷ ps) bytes inside =
    let le = inside.0 in
    let left = length-drop p.shared bytes in
    let first = length-take-le p.own (drop p.shared bytes) (omega (arith, le, left)) in
    let more = length-own ps (drop p.own (drop p.shared bytes)) inside.1 in
    let both = length-append (take p.own (drop p.shared bytes)) (own_bytes ps (drop p.own (drop p.shared bytes))) in
    omega (arith, first, more, both)

take_front : (xs ys : List ℕ) (n : ℕ) → length xs ≡ n → take n (xs ++ ys) ≡ xs
take_front [] ys zero e = refl
take_front [] ys (suc n) e = absurd (omega (arith, e))
take_front (x ∷ xs) ys zero e = absurd (omega (arith, e))
take_front (x ∷ xs) ys (suc n) e = ap (λ (zs : List ℕ). x ∷ zs) (take_front xs ys n (omega (arith, e)))

drop_front : (xs ys : List ℕ) (n : ℕ) → length xs ≡ n → drop n (xs ++ ys) ≡ ys
drop_front [] ys zero e = refl
drop_front [] ys (suc n) e = absurd (omega (arith, e))
drop_front (x ∷ xs) ys zero e = absurd (omega (arith, e))
drop_front (x ∷ xs) ys (suc n) e = drop_front xs ys n (omega (arith, e))

module _ (p : Segment) (ps : List Segment) (base bytes : List ℕ) (le : p.shared + p.own ≤ length base) (same : length bytes ≡ length base) where
  abbrev here : List ℕ
  here = take p.own (drop p.shared bytes)

  here_long : length here ≡ p.own
  here_long = length-take-le p.own (drop p.shared bytes) (let left = length-drop p.shared bytes in omega (arith, le, same, left))

  same_after : length (drop p.own (drop p.shared bytes)) ≡ length (drop p.own (drop p.shared base))
  same_after =
      let a = length-drop p.shared base in
      let b = length-drop p.own (drop p.shared base) in
      let c = length-drop p.shared bytes in
      let d = length-drop p.own (drop p.shared bytes) in
      omega (arith, same, a, b, c, d)

  own_front : take p.own (own_bytes (p ∷ ps) bytes) ≡ here
  own_front = take_front here (own_bytes ps (drop p.own (drop p.shared bytes))) p.own here_long

  own_back : drop p.own (own_bytes (p ∷ ps) bytes) ≡ own_bytes ps (drop p.own (drop p.shared bytes))
  own_back = drop_front here (own_bytes ps (drop p.own (drop p.shared bytes))) p.own here_long

-- there are own bytes for each segment
pub within_own : (ps : List Segment) (base bytes : List ℕ) → AreInside ps base → length bytes ≡ length base → AreWithin ps base (own_bytes ps bytes)
within_own [] base bytes inside same = tt
within_own (p ∷ ps) base bytes inside same =
    let le = inside.0 in
    let long = here_long p ps base bytes le same in
    let both = length-append (take p.own (drop p.shared bytes)) (own_bytes ps (drop p.own (drop p.shared bytes))) in (
      le,
      omega (arith, long, both),
      subst (AreWithin ps (drop p.own (drop p.shared base))) (sym (own_back p ps base bytes le same))
          (within_own ps (drop p.own (drop p.shared base)) (drop p.own (drop p.shared bytes)) inside.1 (same_after p ps base bytes le same)),
    )

-- bytes that agree with the base are it but for their own ones
pub merged_own : (ps : List Segment) (base bytes : List ℕ) → AreInside ps base → length bytes ≡ length base → agrees ps base bytes ≡ true → merged ps base (own_bytes ps bytes) ≡ bytes
merged_own [] base bytes inside same told = (slice_eq-Decides Decides-eqb _ _ _ refl).0 told
merged_own (p ∷ ps) base bytes inside same told =
    let le = inside.0 in
    let both = and-true (pointwise nat_eq (take p.shared base) (take p.shared bytes)) _ told in
    let base' = drop p.own (drop p.shared base) in
    let bytes' = drop p.own (drop p.shared bytes) in
    let rest = merged_own ps base' bytes' inside.1 (same_after p ps base bytes le same) both.1 in
    ap₂ (λ (xs ys : List ℕ). xs ++ ys) ((slice_eq-Decides Decides-eqb _ _ _ refl).0 both.0)
    (ap₂ (λ (xs ys : List ℕ). xs ++ ys) (own_front p ps base bytes le same) (ap (merged ps base') (own_back p ps base bytes le same) ∙ rest)
    ∙ take-append-drop p.own (drop p.shared bytes))
    ∙ take-append-drop p.shared bytes

-- ---- eight bytes that stand together

take_shorter : (n k : ℕ) (xs : List ℕ) → n ≤ k → take n (take k xs) ≡ take n xs
take_shorter zero k xs le = refl
take_shorter (suc n) zero xs le = absurd (omega (arith, le))
take_shorter (suc n) (suc k) [] le = refl
take_shorter (suc n) (suc k) (x ∷ xs) le = ap (λ (ys : List ℕ). x ∷ ys) (take_shorter n k xs (omega (arith, le)))

-- what stands within the front of a list is the list's
part_of_front : (m n k : ℕ) (xs : List ℕ) → m + n ≤ k → take n (drop m (take k xs)) ≡ take n (drop m xs)
part_of_front zero n k xs le = take_shorter n k xs (omega (arith, le))
part_of_front (suc m) n zero xs le = absurd (omega (arith, le))
part_of_front (suc m) n (suc k) [] le = refl
part_of_front (suc m) n (suc k) (x ∷ xs) le = part_of_front m n k xs (omega (arith, le))

-- and so in a list that begins with that front
part_of_append : (m n : ℕ) (xs ys : List ℕ) → m + n ≤ length xs → take n (drop m (xs ++ ys)) ≡ take n (drop m xs)
part_of_append zero n xs ys le = take-append-le n xs ys (omega (arith, le))
part_of_append (suc m) n [] ys le = absurd (omega (arith, le))
part_of_append (suc m) n (x ∷ xs) ys le = part_of_append m n xs ys (omega (arith, le))

drop_beyond : (n : ℕ) (xs ys : List ℕ) → length xs ≤ n → drop n (xs ++ ys) ≡ drop (n - length xs) ys
drop_beyond n [] ys le = ap (λ (m : ℕ). drop m ys) (let e : n ≡ n - 0 = omega arith in e)
drop_beyond zero (x ∷ xs) ys le = absurd (omega (arith, le))
drop_beyond (suc n) (x ∷ xs) ys le = drop_beyond n xs ys (omega (arith, le)) ∙ ap (λ (m : ℕ). drop m ys) (let e : n - length xs ≡ suc n - suc (length xs) = omega arith in e)

module _ (p : Segment) (ps : List Segment) (base own : List ℕ) (place : ℕ) (le : p.shared + p.own ≤ length base) (many : p.own ≤ length own) where
  rest : List ℕ
  rest = merged ps (drop p.own (drop p.shared base)) (drop p.own own)

  eight_shared_by : place + 8 ≤ p.shared → take 8 (drop place base) ≡ take 8 (drop place (merged (p ∷ ps) base own))
  unfolding rest
  eight_shared_by near =
      let front = length-take-le p.shared base (omega (arith, le)) in
      sym (part_of_append place 8 (take p.shared base) (take p.own own ++ rest) (omega (arith, near, front)) ∙ part_of_front place 8 p.shared base near)

  past_shared : p.shared ≤ place → drop place (merged (p ∷ ps) base own) ≡ drop (place - p.shared) (take p.own own ++ rest)
  unfolding rest
  past_shared far =
      let front = length-take-le p.shared base (omega (arith, le)) in
      drop_beyond place (take p.shared base) (take p.own own ++ rest) (omega (arith, far, front)) ∙ ap (λ (n : ℕ). drop (place - n) (take p.own own ++ rest)) front

  eight_own_by : p.shared ≤ place → place + 8 ≤ p.shared + p.own → take 8 (drop (place - p.shared) own) ≡ take 8 (drop place (merged (p ∷ ps) base own))
  eight_own_by far near =
      let second = length-take-le p.own own many in
      sym (ap (take 8) (past_shared far)
      ∙ (part_of_append (place - p.shared) 8 (take p.own own) rest (omega (arith, far, near, second)) ∙ part_of_front (place - p.shared) 8 p.own own (omega (arith, far, near))))

  eight_after_by : p.shared + p.own ≤ place → take 8 (drop (place - (p.shared + p.own)) rest) ≡ take 8 (drop place (merged (p ∷ ps) base own))
  eight_after_by far =
      let second = length-take-le p.own own many in
      let left : place - p.shared - length (take p.own own) ≡ place - (p.shared + p.own) = omega (arith, second, far) in
      sym (ap (take 8) (past_shared (omega (arith, far)) ∙ (drop_beyond (place - p.shared) (take p.own own) rest (omega (arith, far, second)) ∙ ap (λ (n : ℕ). drop n rest) left)))

pub eight_shared : (ps : List Segment) (base own : List ℕ) (place : ℕ) → 1 ≤ length ps → AreWithin ps base own → place + 8 ≤ (first_of ps).shared → take 8 (drop place base) ≡ take 8 (drop place (merged ps base own))
eight_shared [] base own place lt within near = absurd (omega (arith, lt))
eight_shared (p ∷ ps) base own place lt within near = eight_shared_by p ps base own place within.0 within.1 near

pub eight_own :
    (ps : List Segment) (base own : List ℕ) (place : ℕ) → 1 ≤ length ps → AreWithin ps base own → (first_of ps).shared ≤ place → place + 8 ≤ (first_of ps).shared + (first_of ps).own
    → take 8 (drop (place - (first_of ps).shared) own) ≡ take 8 (drop place (merged ps base own))
eight_own [] base own place lt within far near = absurd (omega (arith, lt))
eight_own (p ∷ ps) base own place lt within far near = eight_own_by p ps base own place within.0 within.1 far near

pub eight_after :
    (ps : List Segment) (base own : List ℕ) (place : ℕ) → 1 ≤ length ps → AreWithin ps base own → (first_of ps).shared + (first_of ps).own ≤ place
    → (let p = first_of ps in
    take 8 (drop (place - (p.shared + p.own)) (merged (drop 1 ps) (drop p.own (drop p.shared base)) (drop p.own own))) ≡ take 8 (drop place (merged ps base own)))
unfolding rest
eight_after [] base own place lt within far = absurd (omega (arith, lt))
eight_after (p ∷ ps) base own place lt within far = eight_after_by p ps base own place within.0 within.1 far
