-- Where the successors of entries stand.
use Rattle.std.proofs.Common.{◌≡◌, ◌≢◌, ℕ, zero, suc, ◌-◌, ◌<◌, ◌≤◌, Bool, false, List, [], ◌∷◌, ◌++◌, length, get_or, map, inl, inr, refl, sym, ap, ap₂, ◌∙◌, subst, arith}
use Rattle.std.specs.Prelude.{nat_lt}
use Rattle.std.specs.List.{range_with_len}
use Rattle.std.proofs.lemmas.Bool.{cases_lt, cases_eq, ltb-true, ltb-false, lt-ltb, le-ltb}
use Rattle.std.proofs.lemmas.List.{get_or_append_left, get_or_push, length_push}
use Rattle.std.proofs.lemmas.List.FromFn.{fill_by_all, map-range_with_len_more, get_or-map-range_with_len, length-map-range_with_len}
use Rattle.std.proofs.lemmas.List.Sums.{prefix_len-le-length, position_or_len_is, fails_before_first, passes_at_first}
use Rattle.hd_base.proofs.Tests.{count_by-append}
use Rattle.hd_task.specs.declared.plan.Kid.{Kid}
use Rattle.hd_task.specs.declared.plan.TheConstants.{ROOT_PARENT, ROOT_ACTION}
use Rattle.hd_tables.specs.Kids.{kid_from, ComesAfter, HasNone, root}
use Rattle.hd_tables.specs.Places.{begun, parent_after, kid_at, kids_by, IsRow, AreKids}

-- ---- how many entries' successors have begun

-- the successors of so many entries have begun at a place where these begin there or before, and
-- the next ones after
pub begun_is : (firsts : List ℕ) (j n : ℕ) → n ≤ length firsts → ((m : ℕ) → m < n → get_or firsts m 0 ≤ j)
    → (n < length firsts → j < get_or firsts n 0) → begun firsts j ≡ n
unfolding begun
begun_is firsts j n le before behind =
    position_or_len_is (nat_lt j) firsts n 0 le
    (λ m lt. le-ltb j (get_or firsts m 0) (before m lt))
    (λ lt. lt-ltb j (get_or firsts n 0) (behind lt))

pub begun_few : (firsts : List ℕ) (j : ℕ) → begun firsts j ≤ length firsts
unfolding begun
begun_few firsts j = prefix_len-le-length _ firsts

pub begun_before : (firsts : List ℕ) (j m : ℕ) → m < begun firsts j → get_or firsts m 0 ≤ j
unfolding begun
begun_before firsts j m lt = ltb-false j (get_or firsts m 0) (fails_before_first (nat_lt j) firsts m 0 lt)

pub begun_behind : (firsts : List ℕ) (j : ℕ) → begun firsts j < length firsts → j < get_or firsts (begun firsts j) 0
unfolding begun
begun_behind firsts j lt = ltb-true j _ (passes_at_first (nat_lt j) firsts 0 lt)

-- an entry whose successors begin after a place changes nothing there
pub begun_pushed : (firsts : List ℕ) (first j : ℕ) → j < first → begun (firsts ++ first ∷ []) j ≡ begun firsts j
begun_pushed firsts first j lt =
    let few = begun_few firsts j in
    let len = length_push firsts first in
    begun_is (firsts ++ first ∷ []) j (begun firsts j) (omega (arith, few, len))
    (λ m below. subst (λ (f : ℕ). f ≤ j) (sym (get_or_append_left firsts (first ∷ []) 0 m (omega (arith, below, few)))) (begun_before firsts j m below))
    (λ within. elim (cases_eq (begun firsts j) (length firsts)) [
      | inl last ↦ subst (λ (f : ℕ). j < f) (sym (get_or_push firsts first 0 (begun firsts j) (sym last))) lt
      | inr more ↦
          let inside : begun firsts j < length firsts = omega (arith, few, more) in
          subst (λ (f : ℕ). j < f) (sym (get_or_append_left firsts (first ∷ []) 0 (begun firsts j) inside)) (begun_behind firsts j inside)
    ])

-- after all places, the successors of all entries have begun
pub begun_all : (firsts : List ℕ) (j : ℕ) → ((n : ℕ) → n < length firsts → get_or firsts n 0 ≤ j) → begun firsts j ≡ length firsts
begun_all firsts j ends = begun_is firsts j (length firsts) (omega arith) ends (λ lt. absurd (omega (arith, lt)))

-- ---- successors by their places

pub length-kids_by : (firsts actions : List ℕ) → length (kids_by firsts actions) ≡ length actions
unfolding kids_by
length-kids_by firsts actions = length-map-range_with_len (kid_at firsts actions) 0 (length actions)

pub get_or-kids_by : (firsts actions : List ℕ) (j : ℕ) (d : Kid) → j < length actions → get_or (kids_by firsts actions) j d ≡ kid_at firsts actions j
unfolding kids_by
get_or-kids_by firsts actions j d lt = get_or-map-range_with_len (kid_at firsts actions) 0 (length actions) j j d lt (omega arith)

-- an entry without successors adds none
pub kids_entered : (firsts actions : List ℕ) → kids_by (firsts ++ length actions ∷ []) actions ≡ kids_by firsts actions
unfolding kids_by
kids_entered firsts actions =
    sym (fill_by_all (kid_at (firsts ++ length actions ∷ []) actions) (map (kid_at firsts actions) (range_with_len 0 (length actions))) (length actions) root
    (length-map-range_with_len (kid_at firsts actions) 0 (length actions))
    (λ j lt. get_or-map-range_with_len (kid_at firsts actions) 0 (length actions) j j root lt (omega arith)
    ∙ ap (λ (n : ℕ). kid_from (parent_after n) (get_or actions j 0)) (sym (begun_pushed firsts (length actions) j lt))))

pub last_parent : (n : ℕ) → 0 < n → parent_after n ≡ n - 1
last_parent zero lt = absurd (omega (arith, lt))
last_parent (suc n) lt = omega arith

-- an action more is a successor of the last entry
pub kids_posted : (firsts actions : List ℕ) (a : ℕ) → 0 < length firsts → ((n : ℕ) → n < length firsts → get_or firsts n 0 ≤ length actions)
    → kids_by firsts (actions ++ a ∷ []) ≡ kids_by firsts actions ++ kid_from (length firsts - 1) a ∷ []
unfolding kids_by
kids_posted firsts actions a some ends =
    let all = begun_all firsts (length actions) ends in
    ap (λ (n : ℕ). map (kid_at firsts (actions ++ a ∷ [])) (range_with_len 0 n)) (length_push actions a)
    ∙ (map-range_with_len_more (kid_at firsts (actions ++ a ∷ [])) 0 (length actions) (length actions) (omega arith)
    ∙ ap₂ (λ (ks : List Kid) (k : Kid). ks ++ k ∷ [])
    (sym (fill_by_all (kid_at firsts (actions ++ a ∷ [])) (map (kid_at firsts actions) (range_with_len 0 (length actions))) (length actions) root
    (length-map-range_with_len (kid_at firsts actions) 0 (length actions))
    (λ j lt. get_or-map-range_with_len (kid_at firsts actions) 0 (length actions) j j root lt (omega arith)
    ∙ ap (λ (b : ℕ). kid_from (parent_after (begun firsts j)) b) (sym (get_or_append_left actions (a ∷ []) 0 j lt)))))
    (ap₂ kid_from (ap parent_after all ∙ last_parent (length firsts) some) (get_or_push actions a 0 (length actions) refl)))

-- ---- what a table keeps

-- the root's table
pub first_kids : kids_by [] (ROOT_ACTION ∷ []) ≡ root ∷ []
unfolding kids_by begun
first_kids = refl

pub first_kept : AreKids [] (ROOT_ACTION ∷ []) (false ∷ []) 0
first_kept = record {
  some = omega arith;
  root_is = refl;
  begins = λ n lt. absurd (omega (arith, lt));
  ends = λ n lt. absurd (omega (arith, lt));
  ordered = λ m n _ lt. absurd (omega (arith, lt));
  rising = λ i j lt within. absurd (omega (arith, lt, within));
  numbered = omega arith;
  one_each = refl;
  settled_is = refl;
}

pub entered_kept : (firsts actions : List ℕ) (marks : List Bool) (settled : ℕ) → AreKids firsts actions marks settled → length firsts < ROOT_PARENT
    → AreKids (firsts ++ length actions ∷ []) actions marks settled
entered_kept firsts actions marks settled h few =
    let first = length actions in
    let len = length_push firsts first in
    let at : (n : ℕ) → n < length firsts → get_or (firsts ++ first ∷ []) n 0 ≡ get_or firsts n 0 =
    λ n lt. get_or_append_left firsts (first ∷ []) 0 n lt in
    let last : get_or (firsts ++ first ∷ []) (length firsts) 0 ≡ first = get_or_push firsts first 0 (length firsts) refl in
    let some = h.some in
    record {
      some = h.some;
      root_is = h.root_is;
      begins = λ n lt. elim (cases_lt n (length firsts)) [
        | inl before ↦ let e = at n before in let b = h.begins n before in omega (arith, e, b)
        | inr far ↦ let is : length firsts ≡ n = omega (arith, far, lt, len) in subst (λ (k : ℕ). 0 < get_or (firsts ++ first ∷ []) k 0) is (omega (arith, last, some))
      ];
      ends = λ n lt. elim (cases_lt n (length firsts)) [
        | inl before ↦ let e = at n before in let b = h.ends n before in omega (arith, e, b)
        | inr far ↦ let is : length firsts ≡ n = omega (arith, far, lt, len) in subst (λ (k : ℕ). get_or (firsts ++ first ∷ []) k 0 ≤ first) is (omega (arith, last))
      ];
      ordered = λ m n order lt. elim (cases_lt n (length firsts)) [
        | inl before ↦
            let inside : m < length firsts = omega (arith, order, before) in
            let e = at n before in
            let f = at m inside in
            let b = h.ordered m n order before in
            omega (arith, e, f, b)
        | inr far ↦
            let is : length firsts ≡ n = omega (arith, far, lt, len) in
            let inside : m < length firsts = omega (arith, order, is) in
            let f = at m inside in
            let b = h.ends m inside in
            subst (λ (k : ℕ). get_or (firsts ++ first ∷ []) m 0 ≤ get_or (firsts ++ first ∷ []) k 0) is (omega (arith, last, f, b))
      ];
      rising = λ i j order within same.
          let inside : i < length actions = omega (arith, order, within) in
          h.rising i j order within (sym (begun_pushed firsts first i inside) ∙ (same ∙ begun_pushed firsts first j within));
      numbered = omega (arith, len, few);
      one_each = h.one_each;
      settled_is = h.settled_is;
    }

pub posted_kept : (firsts actions : List ℕ) (marks : List Bool) (settled a : ℕ) → AreKids firsts actions marks settled → 0 < length firsts
    → ComesAfter (kids_by firsts actions) (length firsts - 1) a → AreKids firsts (actions ++ a ∷ []) (marks ++ false ∷ []) settled
posted_kept firsts actions marks settled a h entered after =
    let len = length_push actions a in
    let some = h.some in
    let one_each = h.one_each in
    let at : (j : ℕ) → j < length actions → get_or (actions ++ a ∷ []) j 0 ≡ get_or actions j 0 =
    λ j lt. get_or_append_left actions (a ∷ []) 0 j lt in
    let last : get_or (actions ++ a ∷ []) (length actions) 0 ≡ a = get_or_push actions a 0 (length actions) refl in
    record {
      some = omega (arith, len);
      root_is = at 0 some ∙ h.root_is;
      begins = h.begins;
      ends = λ n lt. let b = h.ends n lt in omega (arith, b, len);
      ordered = h.ordered;
      rising = λ i j order within same. elim (cases_lt j (length actions)) [
        | inl before ↦
            let inside : i < length actions = omega (arith, order, before) in
            let e = at i inside in
            let f = at j before in
            let b = h.rising i j order before same in
            omega (arith, e, f, b)
        | inr far ↦
            let is : length actions ≡ j = omega (arith, far, within, len) in
            let inside : i < length actions = omega (arith, order, is) in
            let all : begun firsts i ≡ length firsts = same ∙ (ap (begun firsts) (sym is) ∙ begun_all firsts (length actions) h.ends) in
            let read = get_or-kids_by firsts actions i root inside in
            let mine : (get_or (kids_by firsts actions) i root).parent ≡ length firsts - 1 = ap (λ (k : Kid). k.parent) read ∙ (ap parent_after all ∙ last_parent (length firsts) entered) in
            let kids = length-kids_by firsts actions in
            let less = after i root (omega (arith, kids, inside)) mine in
            let b : (get_or (kids_by firsts actions) i root).action ≡ get_or actions i 0 = ap (λ (k : Kid). k.action) read in
            let e = at i inside in
            subst (λ (k : ℕ). get_or (actions ++ a ∷ []) i 0 < get_or (actions ++ a ∷ []) k 0) is (omega (arith, e, b, last, less))
      ];
      numbered = h.numbered;
      one_each = omega (arith, len, one_each, length_push marks false);
      settled_is = h.settled_is ∙ sym (let e = count_by-append (λ m. m) marks (false ∷ []) in e ∙ omega arith);
    }

-- ---- an entry's successors

behind_all : (b n : ℕ) → b ≤ n → n < ROOT_PARENT → parent_after b ≢ n
behind_all zero n le few is = omega (arith, few, is)
behind_all (suc m) n le few is = omega (arith, le, is)

-- the next entry has none yet
pub none_yet : (firsts actions : List ℕ) → length firsts < ROOT_PARENT → HasNone (kids_by firsts actions) (length firsts)
none_yet firsts actions few = λ i d lt is.
    let within : i < length actions = omega (arith, lt, length-kids_by firsts actions) in
    behind_all (begun firsts i) (length firsts) (begun_few firsts i) few
    (sym (ap (λ (k : Kid). k.parent) (get_or-kids_by firsts actions i d within)) ∙ is)

-- the successors of an entry stand from its first place up to the first one of the next entry, or
-- up to the end
pub row_is : (firsts actions : List ℕ) (marks : List Bool) (settled n high : ℕ) → AreKids firsts actions marks settled → n < length firsts
    → high ≤ length actions → (suc n < length firsts → high ≡ get_or firsts (suc n) 0) → (length firsts ≤ suc n → high ≡ length actions)
    → IsRow firsts actions n (get_or firsts n 0) high
row_is firsts actions marks settled n high h lt within next end = record {
  within = within;
  inside = λ j from below. begun_is firsts j (suc n) (omega (arith, lt))
      (λ m le. elim (cases_eq m n) [
        | inl same ↦ subst (λ (k : ℕ). get_or firsts k 0 ≤ j) (sym same) from
        | inr other ↦ let b = h.ordered m n (omega (arith, le, other)) lt in omega (arith, b, from)
      ])
      (λ more. let e = next more in omega (arith, e, below));
  outside = λ j among is.
      let from = begun_before firsts j n (omega (arith, is)) in (
        from,
        elim (cases_lt (suc n) (length firsts)) [
          | inl more ↦
              let e = next more in
              let b = begun_behind firsts j (omega (arith, is, more)) in
              let c : get_or firsts (begun firsts j) 0 ≡ get_or firsts (suc n) 0 = ap (λ (k : ℕ). get_or firsts k 0) is in
              omega (arith, e, b, c)
          | inr last ↦ let e = end last in omega (arith, e, among)
        ],
      );
}

-- in a row the actions rise
pub row_rises : (firsts actions : List ℕ) (marks : List Bool) (settled n low high : ℕ) → AreKids firsts actions marks settled → IsRow firsts actions n low high
    → (i j : ℕ) → low ≤ i → i < j → j < high → get_or actions i 0 < get_or actions j 0
row_rises firsts actions marks settled n low high h row i j from order below =
    let within = row.within in
    h.rising i j order (omega (arith, below, within)) (row.inside i from (omega (arith, order, below)) ∙ sym (row.inside j (omega (arith, from, order)) below))
