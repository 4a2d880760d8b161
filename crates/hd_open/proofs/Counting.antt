-- Counts stay those of the slots.
use Rattle.std.proofs.Common.{◌≡◌, ℕ, ◌+◌, ◌-◌, ◌*◌, ◌/◌, ◌^◌, ◌<◌, ◌≤◌, List, [], ◌∷◌, ◌++◌, Option, Some, None, length, get_or, set, slice_get, sym, ap, ◌∙◌, subst, inl, inr, arith, length-append, length-set}
use Rattle.std.proofs.lemmas.Bool.{cases_lt}
use Rattle.std.proofs.lemmas.List.{get_or_append_left, get_or-append_right}
use Rattle.std.proofs.lemmas.Grind.{get_or_default_zero}
use Rattle.hd_open.specs.declared.counts.NodeCounts.{NodeCounts}
use Rattle.hd_open.specs.Live.{nodes_before}
use Rattle.hd_open.specs.Counts.{start_of, part_at, IsRaised, AreSome, AreBelowLimit, AreCounts}
use Rattle.hd_open.proofs.Lowest.{start_less}
use Rattle.hd_open.proofs.Places.{IsPlaced, place_more_some, place_at-le, place_at-le-all, place_all, length-live-le, length-live-lt, placed_push, placed_left, placed_set}

module _ {A : Type 0} where
  pub counts_raised :
      (slots slots' : List (Option A)) (c d : NodeCounts) (i : ℕ) → AreCounts slots c → IsRaised c.parts.items d.parts.items (i / 64) → d.all ≡ c.all + 1
      → IsPlaced slots slots' i → length slots' ≤ 64 * length d.parts.items → AreCounts slots' d
  counts_raised slots slots' c d i k r one p covering = record {
    parts = λ end some_there within.
        let less = start_less end some_there in
        let len = r.len in
        let old = k.parts end some_there (omega arith) in
        elim (cases_lt (i / 64) end) [
          | inr le ↦ (let a = r.earlier end some_there le in
              let b = p.up_to (64 * start_of end) (omega arith) in
              let e = p.up_to (64 * end) (omega arith) in
              omega arith)
          | inl lt ↦ (let e = p.behind (64 * end) (omega arith) in
              elim (cases_lt (i / 64) (start_of end)) [
                | inl lt' ↦ (let a = r.later end lt' in let b = p.behind (64 * start_of end) (omega arith) in omega arith)
                | inr le' ↦ (let a = r.here end (omega arith) (record { from = le'; upto = lt }) in
                    let b = p.up_to (64 * start_of end) (omega arith) in
                    omega arith)
              ])
        ];
    all = let b = p.all in let e = k.all in omega arith;
    covering = covering;
  }

  pub counts_lowered :
      (slots slots' : List (Option A)) (c d : NodeCounts) (i : ℕ) → AreCounts slots c → IsRaised d.parts.items c.parts.items (i / 64) → c.all ≡ d.all + 1
      → IsPlaced slots' slots i → length slots' ≤ 64 * length d.parts.items → AreCounts slots' d
  counts_lowered slots slots' c d i k r one p covering = record {
    parts = λ end some_there within.
        let less = start_less end some_there in
        let len = r.len in
        let old = k.parts end some_there (omega arith) in
        elim (cases_lt (i / 64) end) [
          | inr le ↦ (let a = r.earlier end some_there le in
              let b = p.up_to (64 * start_of end) (omega arith) in
              let e = p.up_to (64 * end) (omega arith) in
              omega arith)
          | inl lt ↦ (let e = p.behind (64 * end) (omega arith) in
              elim (cases_lt (i / 64) (start_of end)) [
                | inl lt' ↦ (let a = r.later end lt' in let b = p.behind (64 * start_of end) (omega arith) in omega arith)
                | inr le' ↦ (let a = r.here end within (record { from = le'; upto = lt }) in
                    let b = p.up_to (64 * start_of end) (omega arith) in
                    omega arith)
              ])
        ];
    all = let b = p.all in let e = k.all in omega arith;
    covering = covering;
  }

  -- ---- parts that have a node, and the greatest numbers

  pub some_counted : (slots : List (Option A)) (c : NodeCounts) (i : ℕ) (x : A) → AreCounts slots c → slice_get slots i ≡ Some (Some x) → AreSome c.parts.items (i / 64)
  some_counted slots c i x k at end within has =
      let here : nodes_before slots (i + 1) ≡ nodes_before slots i + 1 = place_more_some slots i x at in
      let is = k.parts end (let past = has.upto in omega arith) within in
      let from = place_at-le slots (64 * start_of end) i (let le = has.from in omega arith) in
      let to = place_at-le slots (i + 1) (64 * end) (let past = has.upto in omega arith) in
      omega arith

  -- there is a node in all
  pub some_in_all : (slots : List (Option A)) (c : NodeCounts) (i : ℕ) (x : A) → AreCounts slots c → slice_get slots i ≡ Some (Some x) → 0 < c.all
  some_in_all slots c i x k at =
      let here : nodes_before slots (i + 1) ≡ nodes_before slots i + 1 = place_more_some slots i x at in
      let all = place_at-le-all slots (i + 1) in
      let is = k.all in
      omega arith

  below_limit : (slots : List (Option A)) (c : NodeCounts) (group : ℕ) → AreCounts slots c → c.all + 1 < 2 ^ 64 → AreBelowLimit c.parts.items group
  below_limit slots c group k less end within has =
      let is = k.parts end (let past = has.upto in omega arith) within in
      let most = place_at-le-all slots (64 * end) in
      let all = k.all in
      omega arith

  -- one more can be counted than there are slots
  pub fits_more : (slots : List (Option A)) (c : NodeCounts) (group : ℕ) → AreCounts slots c → length slots + 1 < 2 ^ 64 → AreBelowLimit c.parts.items group
  fits_more slots c group k few =
      let all = k.all in
      let live_few = length-live-le slots in
      below_limit slots c group k (omega arith)

  -- a node more can be counted where a slot is empty
  pub fits_back : (slots : List (Option A)) (c : NodeCounts) (i : ℕ) → AreCounts slots c → slice_get slots i ≡ Some None → length slots < 2 ^ 64 → AreBelowLimit c.parts.items (i / 64)
  fits_back slots c i k empty few =
      let all = k.all in
      let fewer = length-live-lt slots i empty in
      below_limit slots c (i / 64) k (omega arith)

  pub all_fits : (slots : List (Option A)) (c : NodeCounts) → AreCounts slots c → c.all ≤ length slots
  all_fits slots c k = let all = k.all in let few = length-live-le slots in omega arith

  pub all_fits_back : (slots : List (Option A)) (c : NodeCounts) (i : ℕ) → AreCounts slots c → slice_get slots i ≡ Some None → c.all < length slots
  all_fits_back slots c i k empty = let all = k.all in let fewer = length-live-lt slots i empty in omega arith

  -- ---- nodes come and go

  pub counted_push :
      (slots after : List (Option A)) (x : A) (c d : NodeCounts) (i : ℕ) → after ≡ slots ++ Some x ∷ [] → i ≡ length slots → AreCounts slots c
      → length slots < 64 * length c.parts.items → IsRaised c.parts.items d.parts.items (i / 64) → d.all ≡ c.all + 1 → AreCounts after d
  counted_push slots after x c d i is at k room r one =
      let s : IsRaised c.parts.items d.parts.items (length slots / 64) = subst (λ (j : ℕ). IsRaised c.parts.items d.parts.items (j / 64)) at r in
      let longer : length (slots ++ Some x ∷ []) ≡ length slots + 1 = length-append slots (Some x ∷ []) in
      let len = r.len in
      subst (λ (ys : List (Option A)). AreCounts ys d) (sym is)
      (counts_raised slots (slots ++ Some x ∷ []) c d (length slots) k s one (placed_push slots x) (omega arith))

  pub counted_left :
      (slots : List (Option A)) (x : A) (c d : NodeCounts) (i : ℕ) → slice_get slots i ≡ Some (Some x) → AreCounts slots c
      → IsRaised d.parts.items c.parts.items (i / 64) → c.all ≡ d.all + 1 → AreCounts (set slots i None) d
  counted_left slots x c d i at k r one =
      let same : length (set slots i None) ≡ length slots = length-set slots i None in
      let len = r.len in
      let covers = k.covering in
      counts_lowered slots (set slots i None) c d i k r one (placed_left slots i x at) (omega arith)

  pub counted_back :
      (slots : List (Option A)) (x : A) (c d : NodeCounts) (i : ℕ) → slice_get slots i ≡ Some None → AreCounts slots c
      → IsRaised c.parts.items d.parts.items (i / 64) → d.all ≡ c.all + 1 → AreCounts (set slots i (Some x)) d
  counted_back slots x c d i at k r one =
      let same : length (set slots i (Some x)) ≡ length slots = length-set slots i (Some x) in
      let len = r.len in
      let covers = k.covering in
      counts_raised slots (set slots i (Some x)) c d i k r one (placed_set slots i x at) (omega arith)

  -- ---- a group more

  pub counted_cover :
      (slots : List (Option A)) (c d : NodeCounts) (before : ℕ) → AreCounts slots c → length c.parts.items ≤ length slots / 64
      → before ≡ nodes_before slots (64 * start_of (length slots / 64 + 1)) → d.parts.items ≡ c.parts.items ++ (c.all - before) ∷ [] → d.all ≡ c.all
      → AreCounts slots d
  counted_cover slots c d before k full is added same = record {
    parts = parts;
    all = same ∙ k.all;
    covering = let covers = k.covering in let l = longer in omega arith;
  }
    where
      groups : length c.parts.items ≡ length slots / 64
      groups = let covers = k.covering in omega arith

      longer : length d.parts.items ≡ length c.parts.items + 1
      longer = ap length added ∙ length-append c.parts.items ((c.all - before) ∷ [])

      last : part_at d.parts.items (length slots / 64 + 1) ≡ c.all - before
      last =
          ap (λ (xs : List ℕ). get_or xs (length slots / 64 + 1 - 1) 0) added
          ∙ (get_or-append_right c.parts.items ((c.all - before) ∷ []) (length slots / 64) (length slots / 64 + 1 - 1) 0 groups (omega arith)
          ∙ ap (λ (n : ℕ). get_or ((c.all - before) ∷ []) n 0) nought)
        where
          nought : length slots / 64 + 1 - 1 - length slots / 64 ≡ 0
          nought = omega arith

      whole : nodes_before slots (64 * start_of (length slots / 64 + 1)) + part_at d.parts.items (length slots / 64 + 1) ≡ nodes_before slots (64 * (length slots / 64 + 1))
      whole =
          let all = place_all slots (64 * (length slots / 64 + 1)) (omega arith) in
          let most = place_at-le-all slots (64 * start_of (length slots / 64 + 1)) in
          let count = k.all in
          let part = last in
          omega arith

      parts : (end : ℕ) → 0 < end → end ≤ length d.parts.items → nodes_before slots (64 * start_of end) + part_at d.parts.items end ≡ nodes_before slots (64 * end)
      parts end some_there within =
          elim (cases_lt end (length slots / 64 + 1)) [
            | inl lt ↦ (let old = k.parts end some_there (let g = groups in omega arith) in
                let kept : part_at d.parts.items end ≡ part_at c.parts.items end =
                ap (λ (xs : List ℕ). get_or xs (end - 1) 0) added ∙ get_or_append_left c.parts.items ((c.all - before) ∷ []) 0 (end - 1) (let g = groups in omega arith) in
                omega arith)
            | inr le ↦ (let here : length slots / 64 + 1 ≡ end = (let g = groups in let l = longer in omega arith) in
                subst (λ (e : ℕ). nodes_before slots (64 * start_of e) + part_at d.parts.items e ≡ nodes_before slots (64 * e)) here whole)
          ]

  -- ---- the parts that make a place

  -- a part more
  pub place_more :
      (slots : List (Option A)) (c : NodeCounts) (end start part sum arrival : ℕ) → AreCounts slots c → 0 < end → end ≤ length c.parts.items
      → start ≡ start_of end → part ≡ get_or c.parts.items (end - 1) part → nodes_before slots (64 * end) + sum ≡ arrival
      → nodes_before slots (64 * start) + (sum + part) ≡ arrival
  place_more slots c end start part sum arrival k some_there within at read was =
      let is : part ≡ part_at c.parts.items end = read ∙ default_zero in
      let old = k.parts end some_there within in
      let moved : nodes_before slots (64 * start) ≡ nodes_before slots (64 * start_of end) = ap (λ (s : ℕ). nodes_before slots (64 * s)) at in
      omega arith
    where
      default_zero : get_or c.parts.items (end - 1) part ≡ get_or c.parts.items (end - 1) 0
      default_zero = get_or_default_zero c.parts.items (end - 1) part (omega arith)

  -- a group farther, after one at which a part starts
  pub group_more :
      (slots : List (Option A)) (c : NodeCounts) (end start part left place : ℕ) → AreCounts slots c → 0 < end → end ≤ length c.parts.items
      → start ≡ start_of end → part ≡ get_or c.parts.items (end - 1) part → part ≤ left → nodes_before slots (64 * start) + left ≡ place
      → nodes_before slots (64 * end) + (left - part) ≡ place
  group_more slots c end start part left place k some_there within at read le was =
      let more = place_more slots c end start part 0 (nodes_before slots (64 * end)) k some_there within at read (omega arith) in
      omega arith
