-- The parts that have a group, one after the other.
use Rattle.std.proofs.Common.{◌≡◌, ◌≢◌, ℕ, zero, suc, ◌+◌, ◌-◌, ◌<◌, ◌≤◌, List, length, get_or, set, bit_or, refl, sym, ap, ◌∙◌, subst, inl, inr, arith, length-set}
use Rattle.std.proofs.lemmas.Bool.{cases_order}
use Rattle.std.proofs.lemmas.List.{get_or-set_same, get_or-set_other}
use Rattle.std.proofs.lemmas.Grind.{get_or_default_zero}
use Rattle.hd_open.specs.Counts.{start_of, part_at, HasGroupBefore, IsRaised}
use Rattle.hd_open.proofs.Lowest.{start_less, skipped, next_start, next_or}

-- in one list each part that has a group and ends before this one is one more than in the other,
-- and the other parts are the same; the part that ends here is the next one
pub record IsRaisedUpTo (less more : List ℕ) (group upto : ℕ) : Type 0 where
  pub from : start_of upto ≤ group
  pub past : group < upto
  pub here : (end : ℕ) → end ≤ length less → HasGroupBefore end group → end < upto → part_at more end ≡ part_at less end + 1
  pub rest : (end : ℕ) → upto ≤ end → part_at more end ≡ part_at less end
  pub earlier : (end : ℕ) → 0 < end → end ≤ group → part_at more end ≡ part_at less end
  pub later : (end : ℕ) → group < start_of end → part_at more end ≡ part_at less end
  pub len : length more ≡ length less

pub raising_starts : (parts : List ℕ) (group : ℕ) → IsRaisedUpTo parts parts group (group + 1)
raising_starts parts group = record {
  from = let less = start_less (group + 1) (omega arith) in omega arith;
  past = omega arith;
  here = λ end within has before. let past = has.upto in absurd (omega arith);
  rest = λ end behind. refl;
  earlier = λ end some_there before. refl;
  later = λ end behind. refl;
  len = refl;
}

pub raising_ends : (less more : List ℕ) (group upto : ℕ) → IsRaisedUpTo less more group upto → length less < upto → IsRaised less more group
raising_ends less more group upto u all = record {
  here = λ end within has. u.here end within has (omega arith);
  earlier = λ end some_there before. u.earlier end some_there before;
  later = λ end behind. u.later end behind;
  len = u.len;
}

part_here : (parts : List ℕ) (end v : ℕ) → 0 < end → end ≤ length parts → part_at (set parts (end - 1) v) end ≡ v
part_here parts end v some_there within = get_or-set_same parts (end - 1) v 0 (omega arith)

part_else : (parts : List ℕ) (end other v : ℕ) → 0 < end → 0 < other → other ≢ end → part_at (set parts (end - 1) v) other ≡ part_at parts other
part_else parts end other v some_there some_other apart =
    get_or-set_other parts (end - 1) (other - 1) v 0 (λ same. apart (omega arith))

-- the next part is one more, too
step :
    (less more less' more' : List ℕ) (group upto : ℕ) → IsRaisedUpTo less more group upto
    → ((end : ℕ) → 0 < end → end ≢ upto → (part_at less' end ≡ part_at less end) × (part_at more' end ≡ part_at more end))
    → part_at more' upto ≡ part_at less' upto + 1 → length less' ≡ length less → length more' ≡ length more
    → IsRaisedUpTo less' more' group (upto + (upto - start_of upto))
step less more less' more' group upto u else here less_len more_len = record {
  from = let next = next_start upto (let past = u.past in omega arith) in let from = u.from in omega arith;
  past = let past = u.past in omega arith;
  here = λ end within has before.
      elim (cases_order end upto) [
        | inl same ↦ subst_here end same
        | inr other ↦ elim other [
          | inl lt ↦ (let old = u.here end (omega arith) has lt in let apart = else end (let past = has.upto in omega arith) (λ same. omega arith) in
              let a = apart.0 in let b = apart.1 in omega arith)
          | inr gt ↦ (let skip = skipped upto end gt before in let from = has.from in let past = u.past in absurd (omega arith))
        ]
      ];
  rest = λ end behind.
      let less_start = start_less upto (let past = u.past in omega arith) in
      let old = u.rest end (omega arith) in
      let apart = else end (let past = u.past in omega arith) (λ same. omega arith) in
      let a = apart.0 in let b = apart.1 in omega arith;
  earlier = λ end some_there before.
      let old = u.earlier end some_there before in
      let apart = else end some_there (λ same. let past = u.past in omega arith) in
      let a = apart.0 in let b = apart.1 in omega arith;
  later = λ end behind.
      let old = u.later end behind in
      let apart = else end (some_of end behind) (λ same. let from = u.from in let is : start_of end ≡ start_of upto = ap start_of same in omega arith) in
      let a = apart.0 in let b = apart.1 in omega arith;
  len = more_len ∙ (u.len ∙ sym less_len);
}
  where
    subst_here : (end : ℕ) → end ≡ upto → part_at more' end ≡ part_at less' end + 1
    subst_here end same = ap (part_at more') same ∙ (here ∙ ap (λ (n : ℕ). part_at less' n + 1) (sym same))

    some_of : (end : ℕ) → group < start_of end → 0 < end
    some_of zero behind = (let none : start_of 0 ≡ 0 = refl in absurd (omega arith))
    some_of (suc end) behind = omega arith

pub raised_more :
    (less more : List ℕ) (group upto : ℕ) → IsRaisedUpTo less more group upto → upto ≤ length more
    → IsRaisedUpTo less (set more (upto - 1) (part_at more upto + 1)) group (upto + (upto - start_of upto))
raised_more less more group upto u within =
    let past = u.past in
    step less more less (set more (upto - 1) (part_at more upto + 1)) group upto u
    (λ end some_there apart. (refl, part_else more upto end (part_at more upto + 1) (omega arith) some_there apart))
    (let is = part_here more upto (part_at more upto + 1) (omega arith) within in let same = u.rest upto (omega arith) in omega arith)
    refl (length-set more (upto - 1) (part_at more upto + 1))

pub lowered_more :
    (less more : List ℕ) (group upto : ℕ) → IsRaisedUpTo less more group upto → upto ≤ length less → 0 < part_at less upto
    → IsRaisedUpTo (set less (upto - 1) (part_at less upto - 1)) more group (upto + (upto - start_of upto))
lowered_more less more group upto u within some_there =
    let past = u.past in
    step less more (set less (upto - 1) (part_at less upto - 1)) more group upto u
    (λ end some_end apart. (part_else less upto end (part_at less upto - 1) (omega arith) some_end apart, refl))
    (let is = part_here less upto (part_at less upto - 1) (omega arith) within in let same = u.rest upto (omega arith) in omega arith)
    (length-set less (upto - 1) (part_at less upto - 1)) refl

-- the next part has the group
pub has_next : (less more : List ℕ) (group upto : ℕ) → IsRaisedUpTo less more group upto → HasGroupBefore upto group
has_next less more group upto u = record { from = u.from; upto = u.past }

-- ---- a part that is read, by its place

back : (at : ℕ) → at + 1 - 1 ≡ at
back at = omega arith

raised_set :
    (less more : List ℕ) (group at x : ℕ) → IsRaisedUpTo less more group (at + 1) → at < length more → x ≡ get_or more at x
    → IsRaisedUpTo less (set more at (x + 1)) group (at + 1 + (at + 1 - start_of (at + 1)))
raised_set less more group at x u within read =
    let is : part_at more (at + 1) ≡ x = ap (λ (n : ℕ). get_or more n 0) (back at) ∙ sym (read ∙ get_or_default_zero more at x within) in
    subst (λ (n : ℕ). IsRaisedUpTo less (set more n (x + 1)) group (at + 1 + (at + 1 - start_of (at + 1)))) (back at)
    (subst (λ (y : ℕ). IsRaisedUpTo less (set more (at + 1 - 1) (y + 1)) group (at + 1 + (at + 1 - start_of (at + 1)))) is
    (raised_more less more group (at + 1) u (omega arith)))

pub raised_read :
    (less more : List ℕ) (group at x : ℕ) → IsRaisedUpTo less more group (at + 1) → at < length more → x ≡ get_or more at x
    → IsRaisedUpTo less (set more at (x + 1)) group (bit_or at (at + 1) + 1)
raised_read less more group at x u within read =
    subst (λ (n : ℕ). IsRaisedUpTo less (set more at (x + 1)) group n) (sym (next_or at)) (raised_set less more group at x u within read)

lowered_set :
    (less more : List ℕ) (group at x : ℕ) → IsRaisedUpTo less more group (at + 1) → at < length less → x ≡ get_or less at x → 0 < part_at less (at + 1)
    → IsRaisedUpTo (set less at (x - 1)) more group (at + 1 + (at + 1 - start_of (at + 1)))
lowered_set less more group at x u within read some_there =
    let is : part_at less (at + 1) ≡ x = ap (λ (n : ℕ). get_or less n 0) (back at) ∙ sym (read ∙ get_or_default_zero less at x within) in
    subst (λ (n : ℕ). IsRaisedUpTo (set less n (x - 1)) more group (at + 1 + (at + 1 - start_of (at + 1)))) (back at)
    (subst (λ (y : ℕ). IsRaisedUpTo (set less (at + 1 - 1) (y - 1)) more group (at + 1 + (at + 1 - start_of (at + 1)))) is
    (lowered_more less more group (at + 1) u (omega arith) some_there))

pub lowered_read :
    (less more : List ℕ) (group at x : ℕ) → IsRaisedUpTo less more group (at + 1) → at < length less → x ≡ get_or less at x → 0 < part_at less (at + 1)
    → IsRaisedUpTo (set less at (x - 1)) more group (bit_or at (at + 1) + 1)
lowered_read less more group at x u within read some_there =
    subst (λ (n : ℕ). IsRaisedUpTo (set less at (x - 1)) more group n) (sym (next_or at)) (lowered_set less more group at x u within read some_there)

-- the part that is the next to be less is no nought yet
pub some_next : (less more : List ℕ) (group upto : ℕ) → IsRaisedUpTo less more group upto → upto ≤ length less → 0 < part_at more upto → 0 < part_at less upto
some_next less more group upto u within some_there = let same = u.rest upto (omega arith) in omega arith
