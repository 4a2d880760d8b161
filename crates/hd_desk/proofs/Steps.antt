-- Each step keeps the word the least of all offers.
use Rattle.std.proofs.Common.{◌≡◌, ◌≢◌, ℕ, zero, suc, ◌+◌, ◌-◌, ◌<◌, ◌≤◌, List, [], ◌∷◌, ◌++◌, min, set, refl, sym, ap, ◌∙◌, subst, ⊎_elim, slice_index, slice_set, arith}
use Rattle.std.specs.List.{sum_by}
use Rattle.std.proofs.lemmas.List.Sums.{sum_by_push}
use mathlib.Core.Option.{some, none, some-injective, some-ne-none}
use lib.ListN.{get_elem?}
use Rattle.atomic_table.specs.Table.{State, Me, step, keeps, Allows, Splits, Joins, opening, Final, Seen}
use Rattle.atomic_table.proofs.Lists.{at_set, at_snoc, set_here, set_else}
use Rattle.hd_desk.specs.declared.bound_rule.Offers.{Offers}
use Rattle.hd_desk.specs.declared.bound_rule.TheConstants.{NO_BOUND}
use Rattle.hd_desk.specs.declared.rule.TheConstants.{ALL_PARTS}
use Rattle.hd_desk.specs.Bound.{least}
use Rattle.hd_desk.specs.Offers.{knows, parts_in, least_offered, IsSeatAt, IsLeast, HasLoaded, HasOffered}
use Rattle.hd_desk.proofs.Least.{least-min, least-append, least_offered_has, least_offered-set, least_offered-push, least_offered_none}
use Rattle.hd_desk.proofs.BoundSums.{sum_by-set_elem, sum_by_zero, get_elem-within}

-- ---- the least of all offers, after a step

-- a seat has offered a cost more
least_after_offer :
    (start : ℕ) (views : List Offers) (seat : ℕ) (v w : Offers) (cost : ℕ)
    → get_elem? views seat ≡ some v → w.offers ≡ v.offers ++ cost ∷ []
    → least_offered start (set views seat w) ≡ min (least_offered start views) cost
least_after_offer start views seat v w cost at is =
    let before : ℕ = least_offered start views in
    let after : ℕ = least_offered start (set views seat w) in
    let here : get_elem? (set views seat w) seat ≡ some w = set_here views seat w (get_elem-within views seat v at).0 in
    let swap : least after v.offers ≡ min cost before =
    least_offered-set start views seat v w at
    ∙ (ap (least before) is ∙ (least-append before v.offers (cost ∷ []) ∙ (least-min cost before v.offers ∙ ap (min cost) (least_offered_has start views seat v at)))) in
    let has : min cost (least after v.offers) ≡ after =
    sym (least-min cost after v.offers)
    ∙ (sym (least-append after v.offers (cost ∷ [])) ∙ (ap (least after) (sym is) ∙ least_offered_has start (set views seat w) seat w here)) in
    omega arith

-- a seat has offered nothing more
least_after_look :
    (start : ℕ) (views : List Offers) (seat : ℕ) (v w : Offers)
    → get_elem? views seat ≡ some v → w.offers ≡ v.offers
    → least_offered start (set views seat w) ≡ least_offered start views
least_after_look start views seat v w at is =
    let before : ℕ = least_offered start views in
    let after : ℕ = least_offered start (set views seat w) in
    let here : get_elem? (set views seat w) seat ≡ some w = set_here views seat w (get_elem-within views seat v at).0 in
    sym (least_offered_has start (set views seat w) seat w here)
    ∙ (ap (least after) is ∙ (least_offered-set start views seat v w at ∙ (ap (least before) is ∙ least_offered_has start views seat v at)))

-- a seat has taken in what another offered
least_after_join :
    (start : ℕ) (views : List Offers) (seat other : ℕ) (v w both spent : Offers)
    → get_elem? views seat ≡ some v → ¬ (other ≡ seat) → get_elem? (set views seat both) other ≡ some w
    → both.offers ≡ v.offers ++ w.offers → spent.offers ≡ []
    → least_offered start (set (set views seat both) other spent) ≡ least_offered start views
least_after_join start views seat other v w both spent at apart there is none_left =
    let old : ℕ = least_offered start views in
    let mid : ℕ = least_offered start (set views seat both) in
    let new : ℕ = least_offered start (set (set views seat both) other spent) in
    let before : get_elem? views other ≡ some w = sym (set_else views seat other both apart) ∙ there in
    let here : get_elem? (set (set views seat both) other spent) seat ≡ some both =
    set_else (set views seat both) other seat spent (λ e. apart (sym e)) ∙ set_here views seat both (get_elem-within views seat v at).0 in
    let first : least mid v.offers ≡ old =
    least_offered-set start views seat v both at
    ∙ (ap (least old) is
    ∙ (least-append old v.offers w.offers
    ∙ (ap (λ n. least n v.offers) (least_offered_has start views other w before) ∙ least_offered_has start views seat v at))) in
    let second : least new w.offers ≡ mid = least_offered-set start (set views seat both) other w spent there ∙ ap (least mid) none_left in
    let has : least (least new w.offers) v.offers ≡ new =
    sym (least-append new v.offers w.offers) ∙ (ap (least new) (sym is) ∙ least_offered_has start (set (set views seat both) other spent) seat both here) in
    sym has ∙ (ap (λ n. least n v.offers) second ∙ first)

-- ---- what seats know, after a step

-- what fits a word fits a lesser one
lesser_word : (n m : ℕ) (v : Offers) → m ≤ n → IsSeatAt n v → IsSeatAt m v
lesser_word n m v less k = record { seen = λ some_part. let seen = k.seen some_part in omega arith; idle = k.idle }

-- after a step of one seat each seat fits the word
seats_after :
    (n m : ℕ) (views : List Offers) (seat : ℕ) (w : Offers)
    → m ≤ n → ((j : ℕ) (u : Offers) → get_elem? views j ≡ some u → IsSeatAt n u) → IsSeatAt m w
    → (j : ℕ) (u : Offers) → get_elem? (set views seat w) j ≡ some u → IsSeatAt m u
seats_after n m views seat w less all this j u at =
    ⊎_elim (λ here. subst (IsSeatAt m) here.1 this) (λ else. lesser_word n m u less (all j u else.1)) (at_set views seat j w u at)

-- ---- the steps

pub begins : (start : ℕ) → IsLeast start (opening (start ∷ []) [] (knows ALL_PARTS start []))
begins start = record { word = refl; whole = refl; seats = first }
  where
    first : (seat : ℕ) (v : Offers) → get_elem? (knows ALL_PARTS start [] ∷ []) seat ≡ some v → IsSeatAt start v
    first zero v at = subst (IsSeatAt start) (some-injective (knows ALL_PARTS start []) v at) (record { seen = λ some_part. omega arith; idle = λ _. refl })
    first (suc seat) v at = absurd (some-ne-none v (sym at))

pub loads :
    (start slots seat : ℕ) (me : Me (Unit {0}) Offers)
    → 0 < me.0.parts
    → Allows (IsLeast start) slots seat me 0 (λ n. n) (HasLoaded (step slots 0 0 0 none) me)
loads start slots seat me some_part s k homes at fits =
    let n : ℕ = slice_index s.words 0 in
    let w : Offers = knows me.0.parts n me.0.offers in
    let found : n ≡ least_offered start s.views = ap (λ (ws : List ℕ). slice_index ws 0) k.word in
    let same : least_offered start (set s.views seat w) ≡ least_offered start s.views = least_after_look start s.views seat me.0 w at refl in
    let mine : IsSeatAt (least_offered start s.views) me.0 = k.seats seat me.0 at in
    let seen : least_offered start s.views ≤ me.0.seen = mine.seen some_part in (
      w,
      keeps,
      tt,
      record {
        word = ap (λ (ws : List ℕ). slice_set ws 0 n) k.word ∙ ap (λ (m : ℕ). m ∷ []) (found ∙ sym same);
        whole = let parts = sum_by-set_elem (λ (v : Offers). v.parts) s.views seat me.0 w at in let old = k.whole in omega arith;
        seats = seats_after (least_offered start s.views) (least_offered start (set s.views seat w)) s.views seat w (omega arith) k.seats
            (record { seen = λ _. omega arith; idle = mine.idle });
      },
      (omega arith, refl),
    )

pub offers :
    (start slots seat cost : ℕ) (me : Me (Unit {0}) Offers)
    → 0 < me.0.parts
    → Allows (IsLeast start) slots seat me 0 (λ n. min n cost) (HasOffered (step slots 0 cost 0 none) me)
offers start slots seat cost me some_part s k homes at fits =
    let n : ℕ = slice_index s.words 0 in
    let w : Offers = knows me.0.parts (min n cost) (me.0.offers ++ cost ∷ []) in
    let found : n ≡ least_offered start s.views = ap (λ (ws : List ℕ). slice_index ws 0) k.word in
    let less : least_offered start (set s.views seat w) ≡ min (least_offered start s.views) cost = least_after_offer start s.views seat me.0 w cost at refl in
    let mine : IsSeatAt (least_offered start s.views) me.0 = k.seats seat me.0 at in
    let seen : least_offered start s.views ≤ me.0.seen = mine.seen some_part in (
      w,
      keeps,
      tt,
      record {
        word = ap (λ (ws : List ℕ). slice_set ws 0 (min n cost)) k.word ∙ ap (λ (m : ℕ). m ∷ []) (ap (λ (m : ℕ). min m cost) found ∙ sym less);
        whole = let parts = sum_by-set_elem (λ (v : Offers). v.parts) s.views seat me.0 w at in let old = k.whole in omega arith;
        seats = seats_after (least_offered start s.views) (least_offered start (set s.views seat w)) s.views seat w (omega arith) k.seats
            (record { seen = λ _. omega arith; idle = λ no_part. absurd (omega arith) });
      },
      (omega arith, refl),
    )

pub splits :
    (start seat : ℕ) (v : Offers)
    → 1 < v.parts
    → Splits (IsLeast start) seat v (knows (v.parts - 1) v.seen v.offers) (knows 1 v.seen [])
splits start seat v some_parts s k at =
    let l : Offers = knows (v.parts - 1) v.seen v.offers in
    let r : Offers = knows 1 v.seen [] in
    let old : ℕ = least_offered start s.views in
    let new : ℕ = least_offered start (set s.views seat l ++ r ∷ []) in
    let same : new ≡ old = least_offered-push start (set s.views seat l) r refl ∙ least_after_look start s.views seat v l at refl in
    let mine : IsSeatAt old v = k.seats seat v at in
    let seen : old ≤ v.seen = mine.seen (omega arith) in
    record {
      word = k.word ∙ ap (λ (m : ℕ). m ∷ []) (sym same);
      whole =
          let first = sum_by-set_elem (λ (u : Offers). u.parts) s.views seat v l at in
          let second = sum_by_push (λ (u : Offers). u.parts) (set s.views seat l) r in
          let all = k.whole in
          omega arith;
      seats = λ j u there. ⊎_elim
          (λ before. seats_after old new s.views seat l (omega arith) k.seats (record { seen = λ _. omega arith; idle = λ no_part. absurd (omega arith) }) j u before)
          (λ last. subst (IsSeatAt new) last (record { seen = λ _. omega arith; idle = λ _. refl })) (at_snoc (set s.views seat l) r u j there);
    }

pub joins :
    (start seat other : ℕ) (v w : Offers)
    → 0 < v.parts → 0 < w.parts
    → Joins (IsLeast start) seat v other w (knows (v.parts + w.parts) (min v.seen w.seen) (v.offers ++ w.offers)) (knows 0 NO_BOUND [])
joins start seat other v w some_part some_other s k at apart there =
    let both : Offers = knows (v.parts + w.parts) (min v.seen w.seen) (v.offers ++ w.offers) in
    let spent : Offers = knows 0 NO_BOUND [] in
    let old : ℕ = least_offered start s.views in
    let new : ℕ = least_offered start (set (set s.views seat both) other spent) in
    let same : new ≡ old = least_after_join start s.views seat other v w both spent at apart there refl refl in
    let before : get_elem? s.views other ≡ some w = sym (set_else s.views seat other both apart) ∙ there in
    let seen : old ≤ v.seen = (k.seats seat v at).seen some_part in
    let seen_other : old ≤ w.seen = (k.seats other w before).seen some_other in
    record {
      word = k.word ∙ ap (λ (m : ℕ). m ∷ []) (sym same);
      whole =
          let first = sum_by-set_elem (λ (u : Offers). u.parts) s.views seat v both at in
          let second = sum_by-set_elem (λ (u : Offers). u.parts) (set s.views seat both) other w spent there in
          let all = k.whole in
          omega arith;
      seats = seats_after old new (set s.views seat both) other spent (omega arith)
          (seats_after old old s.views seat both (omega arith) k.seats (record { seen = λ _. omega arith; idle = λ no_part. absurd (omega arith) }))
          (record { seen = λ some_more. absurd (omega arith); idle = λ _. refl });
    }

-- ---- in the end

-- a seat with all parts knows all offers, of which the word is the least
pub settles :
    (start seat : ℕ) (v : Offers) (s : State (Unit {0}) Offers) (n : ℕ)
    → IsLeast start s → get_elem? s.views seat ≡ some v → v.parts ≡ ALL_PARTS → get_elem? s.words 0 ≡ some n
    → n ≡ least start v.offers
settles start seat v s n k at all read =
    let nothing : Offers = knows 0 0 [] in
    let others : List Offers = set s.views seat nothing in
    let parts = sum_by-set_elem (λ (u : Offers). u.parts) s.views seat v nothing at in
    let whole = k.whole in
    let left : parts_in others ≡ 0 = omega arith in
    let idle : (j : ℕ) (u : Offers) → get_elem? others j ≡ some u → u.offers ≡ [] =
    λ j u there. ⊎_elim (λ here. ap (λ (x : Offers). x.offers) (sym here.1))
    (λ else. (k.seats j u else.1).idle (sum_by_zero (λ (x : Offers). x.parts) others j u left there)) (at_set s.views seat j nothing u there) in
    let found : n ≡ least_offered start s.views =
    some-injective n (least_offered start s.views) (sym read ∙ ap (λ (ws : List ℕ). get_elem? ws 0) k.word) in
    found ∙ (sym (least_offered-set start s.views seat v nothing at) ∙ ap (λ m. least m v.offers) (least_offered_none start others idle))

-- the same, of a table that is closed
pub settled :
    (start seat n : ℕ) (v : Offers) (words : List ℕ) (slots : List (Unit {0}))
    → Final (Seen (IsLeast start) seat v) words slots → v.parts ≡ ALL_PARTS → get_elem? words 0 ≡ some n
    → n ≡ least start v.offers
settled start seat n v words slots f all read =
    settles start seat v f.0 n f.1.0 f.1.1 all (ap (λ (ws : List ℕ). get_elem? ws 0) f.2 ∙ read)
