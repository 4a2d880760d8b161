-- Depths and jumps: what they say of subtypes, and how they are filled in.
use Rattle.std.proofs.Common.{◌≡◌, ◌≢◌, ℕ, zero, suc, ◌+◌, ◌-◌, ◌<◌, ◌≤◌, ◌⊎◌, inl, inr, List, [], ◌∷◌, ◌++◌, length, get_or, refl, sym, ap, ◌∙◌, subst, arith, length-append}
use Rattle.std.proofs.Math.ListN.{set, replicate, get_or-append, length-set}
use Rattle.std.proofs.Math.Seq.{get_or-append_seam}
use Rattle.std.proofs.lemmas.Bool.{cases_eq, cases_lt}
use Rattle.std.proofs.lemmas.List.{get_or_past, get_or-set_same, get_or-set_other, get_or-replicate, length-replicate}
use Rattle.hd_lifted.specs.Types.{parent_of, ancestor, IsSubtype, reflexive, transitive, listed, object, IsRooted}
use Rattle.hd_lifted.specs.Jumps.{height, depth_in, depth_of, jump_of, AreJumps, AreShortcuts, AreFilling, StaysRight}
use Rattle.hd_lifted.proofs.Types.{ancestor-add, ancestor-last, parent_beyond, below_ancestor, above, above_parent, above_object}

-- ---- depths

height-enough : (parents : List ℕ) (n t : ℕ) → ancestor parents n t ≡ 0 → height parents (suc n) t ≡ height parents n t
height-enough parents zero t e = ap (λ u. height parents 1 u) e
height-enough parents (suc n) zero e = refl
height-enough parents (suc n) (suc t) e = ap suc (height-enough parents n (parent_of parents (suc t)) e)

height-object : (parents : List ℕ) (n : ℕ) → height parents n 0 ≡ 0
height-object parents zero = refl
height-object parents (suc n) = refl

height-most : (parents : List ℕ) (n t : ℕ) → height parents n t ≤ n
height-most parents zero t = omega arith
height-most parents (suc n) zero = omega arith
height-most parents (suc n) (suc t) = let most = height-most parents n (parent_of parents (suc t)) in omega (arith, most)

pub depth-object : (parents : List ℕ) → depth_in parents 0 ≡ 0
depth-object parents = height-object parents (length parents + 1)

-- no type is deeper than there are types
pub depth-most : (parents : List ℕ) (t : ℕ) → depth_in parents t ≤ length parents + 1
depth-most parents t = height-most parents (length parents + 1) t

-- a type is deeper than its parent, by one
pub depth-parent : (parents : List ℕ) (t : ℕ) → IsRooted parents → t ≢ 0 → depth_in parents t ≡ depth_in parents (parent_of parents t) + 1
depth-parent parents zero r ne = absurd (ne refl)
depth-parent parents (suc i) r ne =
    let n = length parents in
    let one : n + 1 ≡ suc n = omega arith in
    let root : ancestor parents (suc n) (suc i) ≡ 0 = ap (λ k. ancestor parents k (suc i)) (sym one) ∙ r (suc i) in
    let here : depth_in parents (suc i) ≡ suc (height parents n (parent_of parents (suc i))) = ap (λ k. height parents k (suc i)) one in
    let there : depth_in parents (parent_of parents (suc i)) ≡ height parents n (parent_of parents (suc i)) =
    ap (λ k. height parents k (parent_of parents (suc i))) one ∙ height-enough parents n (parent_of parents (suc i)) root in
    omega (arith, here, there)

depth-beyond : (parents : List ℕ) (t : ℕ) → IsRooted parents → length parents < t → depth_in parents t ≡ 1
depth-beyond parents t r lt =
    let up = depth-parent parents t r (λ e. omega arith) in
    let top : depth_in parents (parent_of parents t) ≡ 0 = ap (λ u. depth_in parents u) (parent_beyond parents t lt) ∙ depth-object parents in
    omega (arith, up, top)

-- ---- what they say of subtypes

-- what is above a type is no deeper
pub depth-falls : (parents : List ℕ) → IsRooted parents → {t u : ℕ} → IsSubtype parents t u → depth_in parents u ≤ depth_in parents t
depth-falls parents r (reflexive t) = omega arith
depth-falls parents r (transitive a b) = let low = depth-falls parents r a in let high = depth-falls parents r b in omega (arith, low, high)
depth-falls parents r (listed zero) = omega arith
depth-falls parents r (listed (suc i)) = let up = depth-parent parents (suc i) r (λ e. omega arith) in omega (arith, up)
depth-falls parents r (object t) = let top = depth-object parents in omega (arith, top)

-- what is above a type and as deep is the type itself
pub same_depth : (parents : List ℕ) (t u : ℕ) → IsRooted parents → IsSubtype parents t u → depth_in parents t ≤ depth_in parents u → t ≡ u
same_depth parents zero u r s le = sym (above_object parents u s)
same_depth parents (suc i) u r s le =
    elim (cases_eq (suc i) u) [
      | inl e ↦ e
      | inr ne ↦
          let up = depth-parent parents (suc i) r (λ e. omega arith) in
          let fall = depth-falls parents r (above_parent parents (suc i) u ne s) in
          absurd (omega (arith, up, fall))
    ]

-- more steps lead further up
further : (parents : List ℕ) (n m t u v : ℕ) → n ≤ m → ancestor parents n t ≡ u → ancestor parents m t ≡ v → IsSubtype parents u v
further parents n m t u v le a b =
    let e : n + (m - n) ≡ m = omega arith in
    let there : ancestor parents (m - n) u ≡ v =
    ap (λ w. ancestor parents (m - n) w) (sym a) ∙ (sym (ancestor-add parents n (m - n) t) ∙ (ap (λ k. ancestor parents k t) e ∙ b)) in
    subst (IsSubtype parents u) there (below_ancestor parents (m - n) u)

-- of two types above a third, the one that is no deeper is above the other
pub above_deeper : (parents : List ℕ) (t u v : ℕ) → IsRooted parents → IsSubtype parents t u → IsSubtype parents t v
    → depth_in parents v ≤ depth_in parents u → IsSubtype parents u v
above_deeper parents t u v r a b le =
    elim (above b) [
      | inl top ↦ subst (IsSubtype parents u) (sym top) (object u)
      | inr to_v ↦ elim (above a) [
        | inl top ↦
            let zero_u : depth_in parents u ≡ 0 = ap (λ w. depth_in parents w) top ∙ depth-object parents in
            let same = same_depth parents v 0 r (object v) (omega (arith, le, zero_u)) in
            subst (IsSubtype parents u) (sym same) (object u)
        | inr to_u ↦ elim (cases_lt to_v.steps to_u.steps) [
          | inl lt ↦
              let same = same_depth parents v u r (further parents to_v.steps to_u.steps t v u (omega (arith, lt)) to_v.leads to_u.leads) le in
              subst (IsSubtype parents u) (sym same) (reflexive u)
          | inr more ↦ further parents to_u.steps to_v.steps t u v more to_u.leads to_v.leads
        ]
      ]
    ]

-- a jump leads up
pub jump_up : (parents jumps : List ℕ) (t far : ℕ) → AreJumps parents jumps → far ≡ jump_of jumps t → IsSubtype parents t far
jump_up parents jumps t far j is = subst (IsSubtype parents t) (sym is) (transitive (listed t) (j t))

-- what is read from the lists
pub read_depth : (parents depths jumps seen : List ℕ) (t d : ℕ) → AreShortcuts parents depths jumps → seen ≡ depths → d ≡ depth_of seen t → d ≡ depth_in parents t
read_depth parents depths jumps seen t d s same e = e ∙ (ap (λ xs. depth_of xs t) same ∙ s.deep t)

pub read_jumps : (parents depths jumps seen : List ℕ) → AreShortcuts parents depths jumps → seen ≡ jumps → AreJumps parents seen
read_jumps parents depths jumps seen s same = subst (AreJumps parents) (sym same) s.jumping

-- a type that is not the highest is not `object`
pub below_object : (parents : List ℕ) (t n : ℕ) → n < depth_in parents t → t ≢ 0
below_object parents t n lt e =
    let top : depth_in parents t ≡ 0 = ap (λ u. depth_in parents u) e ∙ depth-object parents in omega (arith, lt, top)

-- from there the parent is higher, and so is where a jump leads
pub parent_falls : (parents : List ℕ) (t p : ℕ) → IsRooted parents → t ≢ 0 → p ≡ parent_of parents t → depth_in parents p < depth_in parents t
parent_falls parents t p r ne is =
    let up = depth-parent parents t r ne in
    let same : depth_in parents p ≡ depth_in parents (parent_of parents t) = ap (λ u. depth_in parents u) is in
    omega (arith, up, same)

pub jump_falls : (parents jumps : List ℕ) (t far : ℕ) → IsRooted parents → t ≢ 0 → AreJumps parents jumps → far ≡ jump_of jumps t → depth_in parents far < depth_in parents t
jump_falls parents jumps t far r ne j is =
    let up = depth-parent parents t r ne in
    let fall = depth-falls parents r (j t) in
    let same : depth_in parents far ≡ depth_in parents (jump_of jumps t) = ap (λ u. depth_in parents u) is in
    omega (arith, up, fall, same)

-- ---- filling in

-- the depth of a type whose parent has its own
pub depth_next : (parents depths : List ℕ) (t p d : ℕ) → IsRooted parents → 0 < t → p ≡ parent_of parents t
    → depth_of depths (parent_of parents t) ≡ depth_in parents (parent_of parents t) → d ≡ depth_of depths p → d + 1 ≡ depth_in parents t
depth_next parents depths t p d r up is was e =
    let more = depth-parent parents t r (λ z. omega arith) in
    let high : d ≡ depth_in parents (parent_of parents t) = e ∙ (ap (λ u. depth_of depths u) is ∙ was) in
    omega (arith, more, high)

depth_of-set_same : (depths : List ℕ) (i x : ℕ) → i < length depths → depth_of (set depths i x) (suc i) ≡ x
depth_of-set_same depths i x lt = get_or-set_same depths i x 1 lt

depth_of-set_other : (depths : List ℕ) (i x t : ℕ) → t ≢ suc i → depth_of (set depths i x) t ≡ depth_of depths t
depth_of-set_other depths i x zero ne = refl
depth_of-set_other depths i x (suc j) ne = get_or-set_other depths i j x 1 (λ e. ne (ap suc e))

jump_of-set_same : (jumps : List ℕ) (i x : ℕ) → i < length jumps → jump_of (set jumps i x) (suc i) ≡ x
jump_of-set_same jumps i x lt = get_or-set_same jumps i x 0 lt

jump_of-set_other : (jumps : List ℕ) (i x t : ℕ) → t ≢ suc i → jump_of (set jumps i x) t ≡ jump_of jumps t
jump_of-set_other jumps i x zero ne = refl
jump_of-set_other jumps i x (suc j) ne = get_or-set_other jumps i j x 0 (λ e. ne (ap suc e))

-- a type without a depth stands in the list
pub without_depth : (depths : List ℕ) (t : ℕ) → t ≢ 0 → depth_of depths t ≡ 0 → t ≤ length depths
without_depth depths zero ne e = absurd (ne refl)
without_depth depths (suc i) ne e =
    elim (cases_lt i (length depths)) [
      | inl lt ↦ omega (arith, lt)
      | inr le ↦ let past = get_or_past depths i 1 le in absurd (omega (arith, past, e))
    ]

module _ (parents depths jumps : List ℕ) (i d j : ℕ) (f : AreFilling parents depths jumps) (lt : i < length parents) (right : d ≡ depth_in parents (suc i)) where
  in_depths : i < length depths
  in_depths = omega (arith, lt, f.same_depths)

  set_filled : depth_of (set depths i d) (suc i) ≡ depth_in parents (suc i)
  set_filled = depth_of-set_same depths i d in_depths ∙ right

  set_kept : StaysRight parents depths (set depths i d)
  set_kept t was =
      elim (cases_eq t (suc i)) [
        | inl e ↦ subst (λ u. depth_of (set depths i d) u ≡ depth_in parents u) (sym e) set_filled
        | inr ne ↦ depth_of-set_other depths i d t ne ∙ was
      ]

  set_deep : (t : ℕ) → (depth_of (set depths i d) t ≡ 0) ⊎ (depth_of (set depths i d) t ≡ depth_in parents t)
  set_deep t =
      elim (cases_eq t (suc i)) [
        | inl e ↦ inr (subst (λ u. depth_of (set depths i d) u ≡ depth_in parents u) (sym e) set_filled)
        | inr ne ↦ elim (f.deep t) [
          | inl none ↦ inl (depth_of-set_other depths i d t ne ∙ none)
          | inr was ↦ inr (depth_of-set_other depths i d t ne ∙ was)
        ]
      ]

  set_jumping : IsSubtype parents (parent_of parents (suc i)) j → AreJumps parents (set jumps i j)
  set_jumping s t =
      elim (cases_eq t (suc i)) [
        | inl e ↦
            subst (λ u. IsSubtype parents (parent_of parents u) (jump_of (set jumps i j) u)) (sym e)
            (subst (IsSubtype parents (parent_of parents (suc i))) (sym (jump_of-set_same jumps i j (omega (arith, lt, f.same_jumps)))) s)
        | inr ne ↦ subst (IsSubtype parents (parent_of parents t)) (sym (jump_of-set_other jumps i j t ne)) (f.jumping t)
      ]

  set_filling : IsSubtype parents (parent_of parents (suc i)) j → AreFilling parents (set depths i d) (set jumps i j)
  set_filling s = record {
    same_depths = length-set depths i d ∙ f.same_depths;
    same_jumps = length-set jumps i j ∙ f.same_jumps;
    deep = set_deep;
    jumping = set_jumping s;
  }

-- one type more has its depth and its jump
pub record IsFilled (parents depths after after_jumps : List ℕ) (t : ℕ) : Type 0 where
  pub filling : AreFilling parents after after_jumps
  pub filled : depth_of after t ≡ depth_in parents t
  pub kept : StaysRight parents depths after

pub fill_one : (parents depths jumps : List ℕ) (t d j : ℕ) → AreFilling parents depths jumps → 0 < t → t ≤ length parents
    → d ≡ depth_in parents t → IsSubtype parents (parent_of parents t) j → IsFilled parents depths (set depths (t - 1) d) (set jumps (t - 1) j) t
fill_one parents depths jumps zero d j f up within right s = absurd (omega arith)
fill_one parents depths jumps (suc i) d j f up within right s =
    let e : i ≡ suc i - 1 = omega arith in
    subst (λ k. IsFilled parents depths (set depths k d) (set jumps k j) (suc i)) e
    (record {
      filling = set_filling parents depths jumps i d j f (omega arith) right s;
      filled = set_filled parents depths jumps i d j f (omega arith) right;
      kept = set_kept parents depths jumps i d j f (omega arith) right;
    })

-- ---- types that wait for their depths

-- each is the parent of the one before, from a type on, and they are listed
pub record IsPath (parents waiting : List ℕ) (start : ℕ) : Type 0 where
  pub steps : (i : ℕ) → i < length waiting → get_or waiting i 0 ≡ ancestor parents i start
  pub within : (i : ℕ) → i < length waiting → (0 < get_or waiting i 0) × (get_or waiting i 0 ≤ length parents)

pub no_path : (parents : List ℕ) (start : ℕ) → IsPath parents [] start
no_path parents start = record { steps = λ i lt. absurd (omega arith); within = λ i lt. absurd (omega arith) }

-- the next one is put at the end
pub path_push : (parents waiting : List ℕ) (start t : ℕ) → IsPath parents waiting start → t ≡ ancestor parents (length waiting) start
    → 0 < t → t ≤ length parents → IsPath parents (waiting ++ t ∷ []) start
path_push parents waiting start t p is up within =
    let more = length-append waiting (t ∷ []) in
    let last : get_or (waiting ++ t ∷ []) (length waiting) 0 ≡ t = get_or-append_seam waiting t [] 0 in
    record {
      steps = λ i lt. elim (cases_lt i (length waiting)) [
        | inl before ↦ get_or-append waiting (t ∷ []) 0 i before ∙ p.steps i before
        | inr after ↦
            let e : length waiting ≡ i = omega (arith, more, lt, after) in
            subst (λ k. get_or (waiting ++ t ∷ []) k 0 ≡ ancestor parents k start) e (last ∙ is)
      ];
      within = λ i lt. elim (cases_lt i (length waiting)) [
        | inl before ↦
            subst (λ u. (0 < u) × (u ≤ length parents)) (sym (get_or-append waiting (t ∷ []) 0 i before)) (p.within i before)
        | inr after ↦
            let e : length waiting ≡ i = omega (arith, more, lt, after) in
            subst (λ k. (0 < get_or (waiting ++ t ∷ []) k 0) × (get_or (waiting ++ t ∷ []) k 0 ≤ length parents)) e
            (subst (λ u. (0 < u) × (u ≤ length parents)) (sym last) (up, within))
      ];
    }

-- what the last one is, which is taken from the end
pub record IsLast (parents waiting rest : List ℕ) (start t : ℕ) : Type 0 where
  pub path : IsPath parents rest start
  pub fewer : length waiting ≡ length rest + 1
  pub is : t ≡ ancestor parents (length rest) start
  pub up : 0 < t
  pub listed : t ≤ length parents

path_last : (parents rest : List ℕ) (start t : ℕ) → IsPath parents (rest ++ t ∷ []) start → IsLast parents (rest ++ t ∷ []) rest start t
path_last parents rest start t p =
    let more : length (rest ++ t ∷ []) ≡ length rest + 1 = length-append rest (t ∷ []) in
    let last : get_or (rest ++ t ∷ []) (length rest) 0 ≡ t = get_or-append_seam rest t [] 0 in
    let bounds = subst (λ u. (0 < u) × (u ≤ length parents)) last (p.within (length rest) (omega (arith, more))) in
    record {
      path = record {
        steps = λ i lt. sym (get_or-append rest (t ∷ []) 0 i lt) ∙ p.steps i (omega (arith, more, lt));
        within = λ i lt.
            subst (λ u. (0 < u) × (u ≤ length parents)) (get_or-append rest (t ∷ []) 0 i lt) (p.within i (omega (arith, more, lt)));
      };
      fewer = more;
      is = sym last ∙ p.steps (length rest) (omega (arith, more));
      up = bounds.0;
      listed = bounds.1;
    }

pub path_pop : (parents waiting rest : List ℕ) (start t : ℕ) → waiting ≡ rest ++ t ∷ [] → IsPath parents waiting start → IsLast parents waiting rest start t
path_pop parents waiting rest start t e p =
    subst (λ xs. IsLast parents xs rest start t) (sym e) (path_last parents rest start t (subst (λ xs. IsPath parents xs start) e p))

-- where they lead then
pub path_leads : (parents waiting after : List ℕ) (start t p : ℕ) → after ≡ waiting ++ t ∷ [] → t ≡ ancestor parents (length waiting) start
    → p ≡ parent_of parents t → p ≡ ancestor parents (length after) start
path_leads parents waiting after start t p e is up =
    let more : length after ≡ suc (length waiting) = ap (λ xs. length xs) e ∙ length-append waiting (t ∷ []) ∙ omega arith in
    up ∙ (ap (λ u. parent_of parents u) is ∙ (sym (ancestor-last parents (length waiting) start) ∙ ap (λ n. ancestor parents n start) (sym more)))

pub last_parent : (parents waiting rest : List ℕ) (start t : ℕ) → IsLast parents waiting rest start t → ancestor parents (length waiting) start ≡ parent_of parents t
last_parent parents waiting rest start t l =
    let more : length waiting ≡ suc (length rest) = l.fewer ∙ omega arith in
    ap (λ n. ancestor parents n start) more ∙ (ancestor-last parents (length rest) start ∙ ap (λ u. parent_of parents u) (sym l.is))

-- where the walk up ends, the depth is known
pub known : (parents depths jumps : List ℕ) (t : ℕ) → AreFilling parents depths jumps → ((t ≢ 0) → depth_of depths t ≢ 0) → depth_of depths t ≡ depth_in parents t
known parents depths jumps zero f stop = sym (depth-object parents)
known parents depths jumps (suc i) f stop =
    elim (f.deep (suc i)) [
      | inl none ↦ absurd (stop (λ e. omega arith) none)
      | inr is ↦ is
    ]

-- ---- all types

-- before the first
pub none_filled : (parents : List ℕ) → IsRooted parents → AreFilling parents (replicate (length parents) 0) (replicate (length parents) 0)
none_filled parents r = record {
  same_depths = length-replicate (length parents) 0;
  same_jumps = length-replicate (length parents) 0;
  deep = no_depth;
  jumping = no_jump;
} where
  no_depth : (t : ℕ) → (depth_of (replicate (length parents) 0) t ≡ 0) ⊎ (depth_of (replicate (length parents) 0) t ≡ depth_in parents t)
  no_depth zero = inl refl
  no_depth (suc i) =
      elim (cases_lt i (length parents)) [
        | inl lt ↦ inl (get_or-replicate (length parents) i 0 1 lt)
        | inr le ↦
            let beyond = depth-beyond parents (suc i) r (omega (arith, le)) in
            inr (get_or_past (replicate (length parents) 0) i 1 (omega (arith, le, length-replicate {A = ℕ} (length parents) 0)) ∙ sym beyond)
      ]

  blank : (t : ℕ) → jump_of (replicate (length parents) 0) t ≡ 0
  blank zero = refl
  blank (suc i) =
      elim (cases_lt i (length parents)) [
        | inl lt ↦ get_or-replicate (length parents) i 0 0 lt
        | inr le ↦ get_or_past (replicate (length parents) 0) i 0 (omega (arith, le, length-replicate {A = ℕ} (length parents) 0))
      ]

  no_jump : AreJumps parents (replicate (length parents) 0)
  no_jump t = subst (IsSubtype parents (parent_of parents t)) (sym (blank t)) (object (parent_of parents t))

-- the types below a number have their depths
abbrev pub AreFilledBelow : List ℕ → List ℕ → ℕ → Type 0
AreFilledBelow parents depths next = (t : ℕ) → t < next → depth_of depths t ≡ depth_in parents t

pub first_filled : (parents depths : List ℕ) → AreFilledBelow parents depths 1
first_filled parents depths zero lt = sym (depth-object parents)
first_filled parents depths (suc i) lt = absurd (omega arith)

pub filled_more : (parents depths after : List ℕ) (next : ℕ) → AreFilledBelow parents depths next → StaysRight parents depths after
    → depth_of after next ≡ depth_in parents next → AreFilledBelow parents after (next + 1)
filled_more parents depths after next below kept is t lt =
    elim (cases_eq t next) [
      | inl e ↦ subst (λ u. depth_of after u ≡ depth_in parents u) (sym e) is
      | inr ne ↦ kept t (below t (omega arith))
    ]

-- after the last
pub all_filled : (parents depths jumps : List ℕ) → IsRooted parents → AreFilling parents depths jumps → AreFilledBelow parents depths (length parents + 1)
    → AreShortcuts parents depths jumps
all_filled parents depths jumps r f below = record { deep = deep; jumping = f.jumping } where
  deep : (t : ℕ) → depth_of depths t ≡ depth_in parents t
  deep zero = sym (depth-object parents)
  deep (suc i) =
      elim (cases_lt (length parents) (suc i)) [
        | inl beyond ↦ get_or_past depths i 1 (omega (arith, beyond, f.same_depths)) ∙ sym (depth-beyond parents (suc i) r beyond)
        | inr within ↦ below (suc i) (omega (arith, within))
      ]
