-- Walks up the types: what one walk keeps, and what all of them together.
use Rattle.std.proofs.Common.{◌≡◌, ◌≢◌, ℕ, zero, suc, ◌+◌, ◌-◌, ◌<◌, ◌≤◌, ◌==◌, ◌⊎◌, inl, inr, cond, min, List, length, get_or, Option, Some, None, MatchOption, refl, sym, ap, ◌∙◌, subst, arith}
use Rattle.std.proofs.Math.ListN.{set, replicate}
use Rattle.std.proofs.lemmas.Bool.{cases_eq, cases_lt, ne_eqb}
use Rattle.std.proofs.lemmas.List.{get_or_past, get_or-set_same, get_or-set_other, get_or-replicate, length-replicate}
use Rattle.std.proofs.lemmas.List.Sums.{count_by-le-length, sum_by-set}
use Rattle.hd_lifted.specs.Types.{parent_of, ancestor, IsOnCycle, IsRooted}
use Rattle.hd_lifted.specs.Walks.{stamp_of, unvisited, IsRootedBy, AreRootedBy, OnlyStamps, AreVisited}
use Rattle.hd_lifted.proofs.Types.{ancestor-object, ancestor-add, ancestor-last, ancestor-stays, parent_beyond, cycle_min}

-- ---- one stamp more

stamp_of-set_same : (stamps : List ℕ) (i x : ℕ) → i < length stamps → stamp_of (set stamps i x) (suc i) ≡ x
stamp_of-set_same stamps i x lt = get_or-set_same stamps i x 0 lt

stamp_of-set_other : (stamps : List ℕ) (i x t : ℕ) → t ≢ suc i → stamp_of (set stamps i x) t ≡ stamp_of stamps t
stamp_of-set_other stamps i x zero ne = refl
stamp_of-set_other stamps i x (suc j) ne = get_or-set_other stamps i j x 0 (λ e. ne (ap suc e))

-- what a stamp adds to the unvisited types
abbrev blank : ℕ → ℕ
blank x = cond (x == 0) 1 0

-- one type fewer is unvisited
unvisited-set : (stamps : List ℕ) (i x : ℕ) → i < length stamps → get_or stamps i 0 ≡ 0 → x ≢ 0 → unvisited (set stamps i x) + 1 ≡ unvisited stamps
unvisited-set stamps i x lt e ne =
    let both = sum_by-set blank stamps i x 0 lt in
    let was : blank (get_or stamps i 0) ≡ 1 = ap blank e in
    let is : blank x ≡ 0 = rw (ne_eqb x 0 ne) refl in
    omega (arith, both, was, is)

-- ---- one walk

-- the walk goes on from a type to another, which is visited by no more types than those that this
-- walk visited
pub record LeadsOn (parents before stamps : List ℕ) (from to : ℕ) : Type 0 where
  pub more_steps : ℕ
  pub few : suc more_steps + unvisited stamps ≤ unvisited before
  pub leads : ancestor parents (suc more_steps) from ≡ to

-- what holds where a walk, which began at one type with the stamps before it, has come to another
pub record IsWalk (parents before stamps : List ℕ) (start t : ℕ) : Type 0 where
  pub stamped : OnlyStamps start before stamps
  pub begun : (t ≡ start) ⊎ (stamp_of stamps start ≢ 0)
  pub fewer : unvisited stamps ≤ unvisited before
  pub leads : (u : ℕ) → stamp_of stamps u ≡ start → LeadsOn parents before stamps u t

pub walk_begins : (parents stamps : List ℕ) (start : ℕ) → ((t : ℕ) → stamp_of stamps t < start) → IsWalk parents stamps stamps start start
walk_begins parents stamps start new = record {
  stamped = λ t. inl refl;
  begun = inl refl;
  fewer = omega arith;
  leads = λ u e. absurd (omega (arith, new u, e));
}

module _ (parents before stamps : List ℕ) (start i : ℕ) (w : IsWalk parents before stamps start (suc i)) (lt : i < length stamps) (some : 0 < start) (none : get_or stamps i 0 ≡ 0) where
  fewer_left : unvisited (set stamps i start) + 1 ≡ unvisited stamps
  fewer_left = unvisited-set stamps i start lt none (λ e. omega arith)

  stamped_next : OnlyStamps start before (set stamps i start)
  stamped_next t =
      elim (cases_eq t (suc i)) [
        | inl e ↦
            subst (λ u. (stamp_of (set stamps i start) u ≡ stamp_of before u) ⊎ ((stamp_of before u ≡ 0) × (stamp_of (set stamps i start) u ≡ start))) (sym e)
            (elim (w.stamped (suc i)) [
              | inl same ↦ inr (sym same ∙ none, stamp_of-set_same stamps i start lt)
              | inr new ↦ inr (new.0, stamp_of-set_same stamps i start lt)
            ])
        | inr ne ↦
            elim (w.stamped t) [
              | inl same ↦ inl (stamp_of-set_other stamps i start t ne ∙ same)
              | inr new ↦ inr (new.0, stamp_of-set_other stamps i start t ne ∙ new.1)
            ]
      ]

  begun_next : stamp_of (set stamps i start) start ≢ 0
  begun_next z =
      elim (cases_eq start (suc i)) [
        | inl e ↦
            let is : stamp_of (set stamps i start) start ≡ start = subst (λ u. stamp_of (set stamps i start) u ≡ start) (sym e) (stamp_of-set_same stamps i start lt) in
            omega (arith, is, z)
        | inr ne ↦
            elim w.begun [
              | inl e ↦ ne (sym e)
              | inr is ↦ is (sym (stamp_of-set_other stamps i start start ne) ∙ z)
            ]
      ]

  leads_next : (u : ℕ) → stamp_of (set stamps i start) u ≡ start → LeadsOn parents before (set stamps i start) u (parent_of parents (suc i))
  leads_next u is =
      elim (cases_eq u (suc i)) [
        | inl e ↦ record { more_steps = 0; few = omega (arith, fewer_left, w.fewer); leads = ap (λ v. parent_of parents v) e }
        | inr ne ↦
            let on = w.leads u (sym (stamp_of-set_other stamps i start u ne) ∙ is) in
            record {
              more_steps = suc on.more_steps;
              few = omega (arith, fewer_left, on.few);
              leads = ancestor-last parents (suc on.more_steps) u ∙ ap (λ v. parent_of parents v) on.leads;
            }
      ]

  step : IsWalk parents before (set stamps i start) start (parent_of parents (suc i))
  step = record {
    stamped = stamped_next;
    begun = inr begun_next;
    fewer = omega (arith, fewer_left, w.fewer);
    leads = leads_next;
  }

-- a walk goes on from a type that no walk came to
pub walk_step : (parents before stamps : List ℕ) (start t : ℕ) → IsWalk parents before stamps start t → 0 < t → t ≤ length stamps → stamp_of stamps t ≡ 0 → 0 < start → IsWalk parents before (set stamps (t - 1) start) start (parent_of parents t)
walk_step parents before stamps start zero w up lt none some = absurd (omega arith)
walk_step parents before stamps start (suc i) w up lt none some =
    let e : i ≡ suc i - 1 = omega arith in
    subst (λ k. IsWalk parents before (set stamps k start) start (parent_of parents (suc i))) e
    (step parents before stamps start i w (omega arith) some none)

-- fewer are left then
pub walk_falls : (stamps : List ℕ) (start t : ℕ) → 0 < t → t ≤ length stamps → stamp_of stamps t ≡ 0 → 0 < start → unvisited (set stamps (t - 1) start) < unvisited stamps
walk_falls stamps start zero up lt none some = absurd (omega arith)
walk_falls stamps start (suc i) up lt none some =
    let e : suc i - 1 ≡ i = omega arith in
    let left = unvisited-set stamps i start (omega arith) none (λ z. omega arith) in
    let fall : unvisited (set stamps i start) < unvisited stamps = omega (arith, left) in
    rw e fall

-- a walk that comes to its own stamp has closed a cycle
pub walk_closes : (parents before stamps : List ℕ) (start t : ℕ) → IsWalk parents before stamps start t → 0 < start → stamp_of stamps t ≡ start → IsOnCycle parents t
walk_closes parents before stamps start t w some is =
    let on = w.leads t is in
    record {
      below_object = λ e. let z : stamp_of stamps t ≡ 0 = ap (λ u. stamp_of stamps u) e in omega (arith, z, is);
      more_steps = on.more_steps;
      returns = on.leads;
    }

-- where the walk stops elsewhere, `object` is above that type, if it is above each that was visited
-- before
walk_stops : (parents before stamps : List ℕ) (start t : ℕ) → IsWalk parents before stamps start t → length before ≡ length parents
    → ((0 < t) → t ≤ length parents → stamp_of stamps t ≢ 0) → stamp_of stamps t ≢ start → AreRootedBy parents before → IsRootedBy parents before t
walk_stops parents before stamps start zero w same stop other old =
    record { steps = 0; few = omega (arith, count_by-le-length (λ s. s == 0) before, same); leads = refl }
walk_stops parents before stamps start (suc i) w same stop other old =
    elim (cases_lt (length parents) (suc i)) [
      | inl beyond ↦ record { steps = 1; few = omega (arith, count_by-le-length (λ s. s == 0) before, same); leads = parent_beyond parents (suc i) beyond }
      | inr within ↦
          elim (w.stamped (suc i)) [
            | inl same ↦ old (suc i) (λ z. stop (omega arith) within (same ∙ z))
            | inr new ↦ absurd (other new.1)
          ]
    ]

-- and so it is for each type that is visited now
pub walk_ends : (parents before stamps : List ℕ) (start t : ℕ) → IsWalk parents before stamps start t → length before ≡ length parents
    → ((0 < t) → t ≤ length parents → stamp_of stamps t ≢ 0) → stamp_of stamps t ≢ start → AreRootedBy parents before → AreRootedBy parents stamps
walk_ends parents before stamps start t w same stop other old u is =
    let top = walk_stops parents before stamps start t w same stop other old in
    elim (w.stamped u) [
      | inl as_was ↦
          let r = old u (λ z. is (as_was ∙ z)) in
          record { steps = r.steps; few = omega (arith, r.few, w.fewer); leads = r.leads }
      | inr new ↦
          let on = w.leads u new.1 in
          record {
            steps = suc on.more_steps + top.steps;
            few = omega (arith, on.few, top.few);
            leads = ancestor-add parents (suc on.more_steps) top.steps u ∙ (ap (λ v. ancestor parents top.steps v) on.leads ∙ top.leads);
          }
    ]

-- the type at which it began is visited now
pub walk_visits : (parents before stamps : List ℕ) (start t : ℕ) → IsWalk parents before stamps start t
    → ((0 < t) → t ≤ length parents → stamp_of stamps t ≢ 0) → 0 < start → start ≤ length parents → stamp_of stamps start ≢ 0
walk_visits parents before stamps start t w stop some within =
    elim w.begun [
      | inl e ↦ subst (λ u. stamp_of stamps u ≢ 0) e (stop (omega (arith, e)) (omega (arith, e)))
      | inr is ↦ is
    ]

-- ---- all walks

-- no type has a stamp at first
unstamped : (n t : ℕ) → stamp_of (replicate n 0) t ≡ 0
unstamped n zero = refl
unstamped n (suc i) =
    elim (cases_lt i n) [
      | inl lt ↦ get_or-replicate n i 0 0 lt
      | inr le ↦ get_or_past (replicate n 0) i 0 (omega (arith, length-replicate {A = ℕ} n 0))
    ]

-- one walk more
pub visited_more : (parents stamps after : List ℕ) (next : ℕ) (found now : Option ℕ) → AreVisited parents stamps next found → length after ≡ length stamps
    → OnlyStamps next stamps after → 0 < next → stamp_of after next ≢ 0 → MatchOption now (AreRootedBy parents after) (IsOnCycle parents)
    → AreVisited parents after (next + 1) now
visited_more parents stamps after next found now v len only some is cycles = record {
  same = len ∙ v.same;
  below = λ t. elim (only t) [
    | inl as_was ↦ omega (arith, as_was, v.below t)
    | inr new ↦ omega (arith, new.1)
  ];
  visited = λ t up lt z. elim (cases_eq t next) [
    | inl e ↦ is (ap (λ u. stamp_of after u) (sym e) ∙ z)
    | inr ne ↦ elim (only t) [
      | inl as_was ↦ v.visited t up (omega arith) (sym as_was ∙ z)
      | inr new ↦ omega (arith, new.1, z)
    ]
  ];
  cycles = cycles;
}

-- the lesser of two types on cycles, of which the first may be missing
pub cycle_lesser : (parents stamps : List ℕ) (found : Option ℕ) (t least : ℕ) → MatchOption found (AreRootedBy parents stamps) (λ u. IsOnCycle parents u)
    → MatchOption found (least ≡ t) (λ u. least ≡ min u t) → IsOnCycle parents t → IsOnCycle parents least
cycle_lesser parents stamps None t least old is on = subst (IsOnCycle parents) (sym is) on
cycle_lesser parents stamps (Some u) t least old is on = cycle_min parents u t least is old on

-- a walk that closes no cycle changes nothing on those found before
pub still_found : (parents stamps after : List ℕ) (found : Option ℕ) → (AreRootedBy parents stamps → AreRootedBy parents after)
    → MatchOption found (AreRootedBy parents stamps) (IsOnCycle parents) → MatchOption found (AreRootedBy parents after) (λ t. IsOnCycle parents t)
still_found parents stamps after None ends old = ends old
still_found parents stamps after (Some t) ends old = old

-- before all walks
pub none_visited : (parents : List ℕ) → AreVisited parents (replicate (length parents) 0) 1 None
none_visited parents =
    let zeros = λ (t : ℕ). unstamped (length parents) t in
    record {
      same = length-replicate (length parents) 0;
      below = λ t. omega (arith, zeros t);
      visited = λ t up lt. absurd (omega arith);
      cycles = λ t is. absurd (is (zeros t));
    }

-- after all walks, where none closed a cycle
all_rooted : (parents stamps : List ℕ) → AreVisited parents stamps (length parents + 1) None → IsRooted parents
all_rooted parents stamps v zero = ancestor-object parents (length parents + 1)
all_rooted parents stamps v (suc i) =
    elim (cases_lt (length parents) (suc i)) [
      | inl beyond ↦ ancestor-stays parents 1 (length parents + 1) (suc i) (omega arith) (parent_beyond parents (suc i) beyond)
      | inr within ↦
          let r = v.cycles (suc i) (v.visited (suc i) (omega arith) (omega arith)) in
          ancestor-stays parents r.steps (length parents + 1) (suc i) (omega (arith, r.few)) r.leads
    ]

-- what all walks together tell
pub all_told : (parents stamps : List ℕ) (found : Option ℕ) → AreVisited parents stamps (length parents + 1) found → MatchOption found (IsRooted parents) (IsOnCycle parents)
all_told parents stamps None v = all_rooted parents stamps v
all_told parents stamps (Some t) v = v.cycles
