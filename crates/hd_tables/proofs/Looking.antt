-- Successors that are looked for.
use Rattle.std.proofs.Common.{◌≡◌, ◌≢◌, ℕ, zero, suc, ◌+◌, ◌-◌, ◌<◌, ◌≤◌, Bool, true, false, List, length, get_or, Option, Some, None, inl, inr, refl, sym, ap, ap₂, ◌∙◌, subst, arith}
use Rattle.std.specs.Prelude.{◌==◌, nat_lt, MatchOption, IfSome}
use Rattle.std.specs.List.{position, position_or_len}
use Rattle.std.proofs.lemmas.Bool.{cases_eq, cases_lt, cond-true, cond-false, and_from, and_left, and_right, eq-eqb, ne_eqb, lt-ltb, le-ltb}
use Rattle.std.proofs.lemmas.List.{get_or_default}
use Rattle.std.proofs.lemmas.List.Sums.{position_or_len_is}
use Rattle.hd_task.specs.declared.plan.Kid.{Kid}
use Rattle.hd_task.specs.declared.plan.TheConstants.{ROOT_PARENT, ROOT_ACTION}
use Rattle.hd_tables.specs.Kids.{root, same_kid, kid_from, ComesAfter}
use Rattle.hd_tables.specs.Places.{begun, parent_after, kid_at, kids_by, IsRow, AreKids}
use Rattle.hd_tables.proofs.Placing.{begun_is, begun_few, begun_before, begun_all, last_parent, length-kids_by, get_or-kids_by, row_is}

-- the first place that passes, if there is one
position_found : {X : Type 0} (p : X → Bool) (xs : List X) (i : ℕ) (d : X) → i < length xs → ((k : ℕ) → k < i → p (get_or xs k d) ≡ false)
    → p (get_or xs i d) ≡ true → position p xs ≡ Some i
position_found p xs i d lt before here =
    let is = position_or_len_is p xs i d (omega (arith, lt)) before (λ _. here) in
    cond-true (nat_lt (position_or_len p xs) (length xs)) (Some (position_or_len p xs)) None (lt-ltb (position_or_len p xs) (length xs) (omega (arith, is, lt)))
    ∙ ap Some is

position_none : {X : Type 0} (p : X → Bool) (xs : List X) (d : X) → ((k : ℕ) → k < length xs → p (get_or xs k d) ≡ false) → position p xs ≡ None
position_none p xs d fails =
    let is = position_or_len_is p xs (length xs) d (omega arith) fails (λ lt. absurd (omega (arith, lt))) in
    cond-false (nat_lt (position_or_len p xs) (length xs)) (Some (position_or_len p xs)) None (le-ltb (position_or_len p xs) (length xs) (omega (arith, is)))

other_parent : (k q : Kid) → k.parent ≢ q.parent → same_kid k q ≡ false
other_parent k q ne = and_left (k.parent == q.parent) (k.action == q.action) (ne_eqb k.parent q.parent ne)

other_action : (k q : Kid) → k.action ≢ q.action → same_kid k q ≡ false
other_action k q ne = and_right (k.parent == q.parent) (k.action == q.action) (ne_eqb k.action q.action ne)

-- a successor that has the parent n is one of entry n
entry_of : (begun_there n : ℕ) → n ≢ ROOT_PARENT → parent_after begun_there ≡ n → begun_there ≡ suc n
entry_of zero n other is = absurd (other (sym is))
entry_of (suc m) n other is = ap suc is

-- a successor at a place that has another parent, or another action, is another one
other_at : (firsts actions : List ℕ) (k : Kid) (j : ℕ) → j < length actions → (parent_after (begun firsts j) ≡ k.parent → get_or actions j 0 ≢ k.action)
    → same_kid k (get_or (kids_by firsts actions) j root) ≡ false
other_at firsts actions k j lt h =
    subst (λ (q : Kid). same_kid k q ≡ false) (sym (get_or-kids_by firsts actions j root lt))
    (elim (cases_eq k.parent (parent_after (begun firsts j))) [
      | inl same ↦ other_action k (kid_at firsts actions j) (λ e. h (sym same) (sym e))
      | inr differs ↦ other_parent k (kid_at firsts actions j) differs
    ])

-- where the search finds an action among those of a successor's parent, the successor is there
pub kid_found : (firsts actions : List ℕ) (marks : List Bool) (settled low high i : ℕ) (k : Kid) → AreKids firsts actions marks settled
    → k.parent ≢ ROOT_PARENT → IsRow firsts actions k.parent low high → low ≤ i → i < high → get_or actions i 0 ≡ k.action
    → position (same_kid k) (kids_by firsts actions) ≡ Some i
kid_found firsts actions marks settled low high i k h other row from below is =
    let within = row.within in
    let lt : i < length actions = omega (arith, below, within) in
    let len = length-kids_by firsts actions in
    position_found (same_kid k) (kids_by firsts actions) i root (omega (arith, len, lt))
    (λ j order. other_at firsts actions k j (omega (arith, order, lt)) (λ same e.
    let there = entry_of (begun firsts j) k.parent other same in
    let less = h.rising j i order lt (there ∙ sym (row.inside i from below)) in
    omega (arith, less, e, is)))
    (subst (λ (q : Kid). same_kid k q ≡ true) (sym (get_or-kids_by firsts actions i root lt))
    (and_from (k.parent == parent_after (begun firsts i)) (k.action == get_or actions i 0)
    (eq-eqb k.parent (parent_after (begun firsts i)) (sym (ap parent_after (row.inside i from below))))
    (eq-eqb k.action (get_or actions i 0) (sym is))))

-- where it finds none, the successor is not posted
pub kid_missing : (firsts actions : List ℕ) (marks : List Bool) (settled low high : ℕ) (k : Kid) → AreKids firsts actions marks settled
    → k.parent ≢ ROOT_PARENT → IsRow firsts actions k.parent low high → ((i : ℕ) → low ≤ i → i < high → get_or actions i 0 ≢ k.action)
    → position (same_kid k) (kids_by firsts actions) ≡ None
kid_missing firsts actions marks settled low high k h other row none =
    let len = length-kids_by firsts actions in
    position_none (same_kid k) (kids_by firsts actions) root
    (λ j lt.
    let among : j < length actions = omega (arith, len, lt) in
    other_at firsts actions k j among (λ same.
    let at = row.outside j among (entry_of (begun firsts j) k.parent other same) in
    none j at.0 at.1))

-- what is no entry has no successors
pub kid_unknown : (firsts actions : List ℕ) (marks : List Bool) (settled : ℕ) (k : Kid) → AreKids firsts actions marks settled
    → k.parent ≢ ROOT_PARENT → length firsts ≤ k.parent → position (same_kid k) (kids_by firsts actions) ≡ None
kid_unknown firsts actions marks settled k h other far =
    let len = length-kids_by firsts actions in
    position_none (same_kid k) (kids_by firsts actions) root
    (λ j lt. other_at firsts actions k j (omega (arith, len, lt)) (λ same.
    let e = entry_of (begun firsts j) k.parent other same in
    let few = begun_few firsts j in
    absurd (omega (arith, e, few, far))))

begun_root : (firsts actions : List ℕ) (marks : List Bool) (settled : ℕ) → AreKids firsts actions marks settled → begun firsts 0 ≡ 0
begun_root firsts actions marks settled h = begun_is firsts 0 0 (omega arith) (λ m lt. absurd (omega (arith, lt))) (λ lt. h.begins 0 lt)

-- the root comes first
pub root_found : (firsts actions : List ℕ) (marks : List Bool) (settled : ℕ) (k : Kid) → AreKids firsts actions marks settled
    → k.parent ≡ ROOT_PARENT → k.action ≡ ROOT_ACTION → position (same_kid k) (kids_by firsts actions) ≡ Some 0
root_found firsts actions marks settled k h parent action =
    let some = h.some in
    let len = length-kids_by firsts actions in
    position_found (same_kid k) (kids_by firsts actions) 0 root (omega (arith, len, some)) (λ j lt. absurd (omega (arith, lt)))
    (subst (λ (q : Kid). same_kid k q ≡ true) (sym (get_or-kids_by firsts actions 0 root some))
    (and_from (k.parent == parent_after (begun firsts 0)) (k.action == get_or actions 0 0)
    (eq-eqb k.parent (parent_after (begun firsts 0)) (parent ∙ sym (ap parent_after (begun_root firsts actions marks settled h))))
    (eq-eqb k.action (get_or actions 0 0) (action ∙ sym h.root_is))))

none_begun : (b few : ℕ) → b ≤ few → few ≤ ROOT_PARENT → parent_after b ≡ ROOT_PARENT → b ≡ 0
none_begun zero few le most is = refl
none_begun (suc n) few le most is = absurd (omega (arith, le, most, is))

-- no other successor has the root's parent
pub root_alone : (firsts actions : List ℕ) (marks : List Bool) (settled : ℕ) (k : Kid) → AreKids firsts actions marks settled
    → k.parent ≡ ROOT_PARENT → k.action ≢ ROOT_ACTION → k.action ≤ ROOT_ACTION → position (same_kid k) (kids_by firsts actions) ≡ None
root_alone firsts actions marks settled k h parent action fits =
    let len = length-kids_by firsts actions in
    position_none (same_kid k) (kids_by firsts actions) root
    (λ j lt. let among : j < length actions = omega (arith, len, lt) in
    other_at firsts actions k j among (λ same e.
    let none : begun firsts j ≡ 0 = none_begun (begun firsts j) (length firsts) (begun_few firsts j) h.numbered (same ∙ parent) in
    elim (cases_eq j 0) [
      | inl first ↦ action (sym e ∙ (ap (λ (i : ℕ). get_or actions i 0) first ∙ h.root_is))
      | inr later ↦
          let less = h.rising 0 j (omega (arith, later)) among (begun_root firsts actions marks settled h ∙ sym none) in
          let first = h.root_is in
          omega (arith, less, first, e, fits)
    ]))

-- ---- what may come next

abbrev last_of : List ℕ → ℕ
last_of firsts = length firsts - 1

-- a successor of the last entry
of_last : (firsts actions : List ℕ) (marks : List Bool) (settled i : ℕ) (d : Kid) → AreKids firsts actions marks settled → 0 < length firsts
    → i < length actions → (get_or (kids_by firsts actions) i d).parent ≡ last_of firsts → begun firsts i ≡ length firsts
of_last firsts actions marks settled i d h some lt is =
    let few = h.numbered in
    let there : begun firsts i ≡ suc (last_of firsts) =
    entry_of (begun firsts i) (last_of firsts) (λ e. omega (arith, few, some, e))
    (sym (ap (λ (k : Kid). k.parent) (get_or-kids_by firsts actions i d lt)) ∙ is)
    in
    omega (arith, there, some)

-- where the last entry has no successors, each action comes after them
pub after_none : (firsts actions : List ℕ) (marks : List Bool) (settled a : ℕ) → AreKids firsts actions marks settled → 0 < length firsts
    → get_or firsts (last_of firsts) 0 ≡ length actions → ComesAfter (kids_by firsts actions) (last_of firsts) a
after_none firsts actions marks settled a h some none = λ i d lt is.
    let within : i < length actions = omega (arith, lt, length-kids_by firsts actions) in
    let all = of_last firsts actions marks settled i d h some within is in
    let before = begun_before firsts i (last_of firsts) (omega (arith, all, some)) in
    absurd (omega (arith, before, none, within))

-- else the action of the last successor decides
last_begun : (firsts actions : List ℕ) (marks : List Bool) (settled : ℕ) → AreKids firsts actions marks settled → 0 < length firsts
    → get_or firsts (last_of firsts) 0 < length actions → begun firsts (length actions - 1) ≡ length firsts
last_begun firsts actions marks settled h some before =
    begun_all firsts (length actions - 1) (λ n lt.
    elim (cases_eq n (last_of firsts)) [
      | inl same ↦ subst (λ (m : ℕ). get_or firsts m 0 ≤ length actions - 1) (sym same) (omega (arith, before))
      | inr other ↦ let b = h.ordered n (last_of firsts) (omega (arith, lt, other)) (omega (arith, some)) in omega (arith, b, before)
    ])

pub after_last : (firsts actions : List ℕ) (marks : List Bool) (settled a : ℕ) → AreKids firsts actions marks settled → 0 < length firsts
    → get_or firsts (last_of firsts) 0 < length actions → get_or actions (length actions - 1) 0 < a → ComesAfter (kids_by firsts actions) (last_of firsts) a
after_last firsts actions marks settled a h some before less = λ i d lt is.
    let within : i < length actions = omega (arith, lt, length-kids_by firsts actions) in
    let all = of_last firsts actions marks settled i d h some within is in
    let last = last_begun firsts actions marks settled h some before in
    let read = ap (λ (k : Kid). k.action) (get_or-kids_by firsts actions i d within) in
    elim (cases_eq i (length actions - 1)) [
      | inl same ↦ let e = ap (λ (j : ℕ). get_or actions j 0) same in omega (arith, read, e, less)
      | inr other ↦
          let rise = h.rising i (length actions - 1) (omega (arith, within, other)) (omega (arith, within)) (all ∙ sym last) in
          omega (arith, read, rise, less)
    ]

pub last_before : (firsts actions : List ℕ) (marks : List Bool) (settled a : ℕ) → AreKids firsts actions marks settled → 0 < length firsts
    → get_or firsts (last_of firsts) 0 < length actions → ComesAfter (kids_by firsts actions) (last_of firsts) a → get_or actions (length actions - 1) 0 < a
last_before firsts actions marks settled a h some before after =
    let within : length actions - 1 < length actions = omega (arith, before) in
    let read = get_or-kids_by firsts actions (length actions - 1) root within in
    let last = last_begun firsts actions marks settled h some before in
    let count = length-kids_by firsts actions in
    let parent : (get_or (kids_by firsts actions) (length actions - 1) root).parent ≡ last_of firsts =
    ap (λ (k : Kid). k.parent) read ∙ (ap parent_after last ∙ last_parent (length firsts) some)
    in
    let less = after (length actions - 1) root (omega (arith, count, within)) parent in
    let action = ap (λ (k : Kid). k.action) read in
    omega (arith, less, action)

-- ---- a search

-- the successors of an entry, between the places that are looked up
pub entry_row :
    (firsts actions : List ℕ) (marks : List Bool) (settled n low high posted : ℕ) → AreKids firsts actions marks settled → n < length firsts → low ≡ get_or firsts n 0 → posted ≡ length actions
    → (n + 1 < length firsts → high ≡ get_or firsts (n + 1) 0) → (length firsts ≤ n + 1 → high ≡ posted) → IsRow firsts actions n low high
entry_row firsts actions marks settled n low high posted h lt is all next last =
    let one : n + 1 ≡ suc n = omega arith in
    subst (λ (m : ℕ). IsRow firsts actions n m high) (sym is)
    (row_is firsts actions marks settled n high h lt
    (elim (cases_lt (n + 1) (length firsts)) [
      | inl more ↦ let e = next more in let b = h.ends (n + 1) more in omega (arith, e, b)
      | inr end ↦ let e = last end in omega (arith, e, all)
    ])
    (λ more. next (omega (arith, more)) ∙ ap (λ (m : ℕ). get_or firsts m 0) one)
    (λ end. last (omega (arith, end)) ∙ all))

-- what a search among the successors of an entry finds
abbrev IsFound : List ℕ → ℕ → ℕ → ℕ → Option ℕ → Type 0
IsFound actions low high a r =
    MatchOption r ((i : ℕ) → low ≤ i → i < high → get_or actions i 0 ≢ a) (λ i. (low ≤ i) × (i < high) × (get_or actions i 0 ≡ a))

pub looked_for :
    (firsts actions : List ℕ) (marks : List Bool) (settled low high : ℕ) (k : Kid) → AreKids firsts actions marks settled → k.parent ≢ ROOT_PARENT → IsRow firsts actions k.parent low high
    → (r : Option ℕ) → IsFound actions low high k.action r → r ≡ position (same_kid k) (kids_by firsts actions)
looked_for firsts actions marks settled low high k h other row None none = sym (kid_missing firsts actions marks settled low high k h other row none)
looked_for firsts actions marks settled low high k h other row (Some i) there = sym (kid_found firsts actions marks settled low high i k h other row there.0 there.1 there.2)

pub found_within :
    (firsts actions : List ℕ) (n low high a : ℕ) → IsRow firsts actions n low high → (r : Option ℕ) → IsFound actions low high a r → IfSome r (λ i. i < length (kids_by firsts actions))
found_within firsts actions n low high a row None none = tt
found_within firsts actions n low high a row (Some i) there =
    let within = row.within in
    let below = there.1 in
    let count = length-kids_by firsts actions in
    omega (arith, within, below, count)

-- ---- the successor at a place

pub kid_there : (firsts actions : List ℕ) (place n a : ℕ) (d : Kid) → place < length actions → n ≡ parent_after (begun firsts place) → a ≡ get_or actions place a
    → kid_from n a ≡ get_or (kids_by firsts actions) place d
kid_there firsts actions place n a d lt parent action =
    ap₂ kid_from parent (action ∙ get_or_default actions place a 0 lt) ∙ sym (get_or-kids_by firsts actions place d lt)
