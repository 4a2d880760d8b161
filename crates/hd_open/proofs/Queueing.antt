-- What a queue has, after entries have come and gone.
use Rattle.std.proofs.Common.{◌≡◌, ◌≢◌, ◌⊎◌, ℕ, ◌+◌, ◌<◌, ◌≤◌, Bool, true, false, cond, List, [], ◌∷◌, ◌++◌, Option, Some, None, IfSome, IfNone, length, set, drop, slice_get, refl, sym, ap, ◌∙◌, subst, inl, inr, ⊎_elim, arith, length-set}
use Rattle.std.specs.Ordering.{is_eq}
use Rattle.std.specs.List.{list_any}
use Rattle.std.specs.BTreeMap.{is_at}
use Rattle.std.specs.BTreeSet.{BTreeSet, contains, Updates, IsLowerBound, IsUnchanged}
use Rattle.std.proofs.lemmas.Bool.{cases_lt, cases_order, lt-ltb}
use Rattle.std.proofs.lemmas.Option.{none-some, same_Some}
use Rattle.hd_open.specs.declared.queue.OpenQueue.{OpenQueue}
use Rattle.hd_open.specs.Totals.{IsNotAfter}
use Rattle.hd_open.specs.Live.{live, IsBestArrival}
use Rattle.hd_open.specs.Marks.{slot_bit, AreMarks}
use Rattle.hd_open.specs.Queue.{entry_cmp, Has, IsAmong, bucket, IsAscending, AreCleared, IsCleared, IsFirstWaiting, IsQueueOrderly, IsSingle, IsBelow, IsQueued}
use Rattle.hd_open.proofs.Ordering.{entry_cmp_not_greater, entry_cmp_same}
use Rattle.hd_open.proofs.Buckets.{among_more, among_last, among_cases, among_rest, among_of_rest, ascending_push, ascending_rest, first_least, none_among, bucket_here, bucket_else, bucket_past}
use Rattle.hd_open.proofs.Marking.{filled_is_marked, marked_filled}
use Rattle.hd_open.proofs.Places.{live_none, slice_get-set_else, slice_get-push_else}

cond_stays : (b c : Bool) → c ≡ true → cond b true c ≡ true
cond_stays true c held = refl
cond_stays false c held = held

cond_comes : (b c : Bool) → cond b true c ≡ true → (c ≡ true) ⊎ (b ≡ true)
cond_comes true c held = inr refl
cond_comes false c held = inl held

cond_goes : (b c : Bool) → c ≡ true → (cond b false c ≡ true) ⊎ (b ≡ true)
cond_goes true c held = inr refl
cond_goes false c held = inl held

cond_went : (b c : Bool) → cond b false c ≡ true → c ≡ true
cond_went true c held = absurd (cc)
cond_went false c held = held

-- ---- an entry comes

-- after an arrival has come, or not
pub record IsAdded (q r : OpenQueue) (total : Option ℕ) (arrival : ℕ) : Type 0 where
  pub orderly : IsQueueOrderly r
  pub added : Has r total arrival
  pub stays : (g : Option ℕ) (k : ℕ) → Has q g k → Has r g k
  pub only : (g : Option ℕ) (k : ℕ) → Has r g k → Has q g k ⊎ ((total ≡ g) × (arrival ≡ k))

-- the same arrivals are there
pub record IsSame (q r : OpenQueue) : Type 0 where
  pub orderly : IsQueueOrderly r
  pub stays : (g : Option ℕ) (k : ℕ) → Has q g k → Has r g k
  pub only : (g : Option ℕ) (k : ℕ) → Has r g k → Has q g k

pub covered :
    (q r : OpenQueue) → IsQueueOrderly q → ((t : ℕ) → bucket r.small.items t ≡ bucket q.small.items t) → length r.small.items ≤ 65536
    → r.least ≡ q.least → r.large ≡ q.large → r.dead ≡ q.dead → IsSame q r
covered q r o same few least large dead = record {
  orderly = record {
    ascends = λ t. subst (λ (xs : List ℕ). IsAscending xs) (sym (same t)) (o.ascends t);
    few = few;
    empty = λ t before. same t ∙ o.empty t (omega arith);
    greater = λ t a held. o.greater t a (ap (λ (l : BTreeSet (ℕ × ℕ)). contains entry_cmp l (t, a)) (sym large) ∙ held);
    dead = subst (λ (xs : List ℕ). IsAscending xs) (sym dead) o.dead;
  };
  stays = stays;
  only = only;
}
  where
    stays : (g : Option ℕ) (k : ℕ) → Has q g k → Has r g k
    stays (Some t) k has =
        ⊎_elim (λ in_bucket. inl (subst (λ (xs : List ℕ). IsAmong xs k) (sym (same t)) in_bucket))
        (λ in_large. inr (ap (λ (l : BTreeSet (ℕ × ℕ)). contains entry_cmp l (t, k)) large ∙ in_large)) has
    stays None k has = subst (λ (xs : List ℕ). IsAmong xs k) (sym dead) has

    only : (g : Option ℕ) (k : ℕ) → Has r g k → Has q g k
    only (Some t) k has =
        ⊎_elim (λ in_bucket. inl (subst (λ (xs : List ℕ). IsAmong xs k) (same t) in_bucket))
        (λ in_large. inr (ap (λ (l : BTreeSet (ℕ × ℕ)). contains entry_cmp l (t, k)) (sym large) ∙ in_large)) has
    only None k has = subst (λ (xs : List ℕ). IsAmong xs k) dead has

-- an arrival comes after the others of its bucket
pub added_small :
    (q r : OpenQueue) (small : List (List ℕ)) (total arrival : ℕ) → IsQueueOrderly q → IsBelow q arrival
    → ((t : ℕ) → bucket small t ≡ bucket q.small.items t) → length small ≤ 65536 → total < length small
    → r.small.items ≡ set small total (bucket small total ++ arrival ∷ []) → r.least ≤ q.least → r.least ≤ total → r.large ≡ q.large → r.dead ≡ q.dead
    → IsAdded q r (Some total) arrival
added_small q r small total arrival o latest same few within is least_old least_new large dead = record {
  orderly = record {
    ascends = ascends;
    few = let len = ap length is in let kept = length-set small total (bucket small total ++ arrival ∷ []) in omega arith;
    empty = λ t before. else t (λ here. omega arith) ∙ o.empty t (omega arith);
    greater = λ t a held. o.greater t a (ap (λ (l : BTreeSet (ℕ × ℕ)). contains entry_cmp l (t, a)) (sym large) ∙ held);
    dead = subst (λ (xs : List ℕ). IsAscending xs) (sym dead) o.dead;
  };
  added = inl (subst (λ (xs : List ℕ). IsAmong xs arrival) (sym here) (among_last (bucket q.small.items total) arrival));
  stays = stays;
  only = only;
}
  where
    here : bucket r.small.items total ≡ bucket q.small.items total ++ arrival ∷ []
    here =
        ap (λ (bs : List (List ℕ)). bucket bs total) is
        ∙ (bucket_here small total (bucket small total ++ arrival ∷ []) within ∙ ap (λ (xs : List ℕ). xs ++ arrival ∷ []) (same total))

    else : (t : ℕ) → t ≢ total → bucket r.small.items t ≡ bucket q.small.items t
    else t apart = ap (λ (bs : List (List ℕ)). bucket bs t) is ∙ (bucket_else small total t (bucket small total ++ arrival ∷ []) apart ∙ same t)

    ascends_here : IsAscending (bucket r.small.items total)
    ascends_here =
        subst (λ (xs : List ℕ). IsAscending xs) (sym here)
        (ascending_push (bucket q.small.items total) arrival (o.ascends total) (λ k among. let lt = latest (Some total) k (inl among) in omega arith))

    ascends : (t : ℕ) → IsAscending (bucket r.small.items t)
    ascends t =
        elim (cases_order t total) [
          | inl is_total ↦ subst (λ (u : ℕ). IsAscending (bucket r.small.items u)) (sym is_total) ascends_here
          | inr other ↦ subst (λ (xs : List ℕ). IsAscending xs) (sym (else t (λ is_total. elim other [ inl lt ↦ omega arith | inr gt ↦ omega arith ]))) (o.ascends t)
        ]

    among_stays : (t k : ℕ) → IsAmong (bucket q.small.items t) k → IsAmong (bucket r.small.items t) k
    among_stays t k among =
        elim (cases_order t total) [
          | inl is_total ↦ subst (λ (u : ℕ). IsAmong (bucket r.small.items u) k) (sym is_total)
              (subst (λ (xs : List ℕ). IsAmong xs k) (sym here) (among_more (bucket q.small.items total) arrival k (subst (λ (u : ℕ). IsAmong (bucket q.small.items u) k) is_total among)))
          | inr other ↦ subst (λ (xs : List ℕ). IsAmong xs k) (sym (else t (λ is_total. elim other [ inl lt ↦ omega arith | inr gt ↦ omega arith ]))) among
        ]

    among_only : (t k : ℕ) → IsAmong (bucket r.small.items t) k → IsAmong (bucket q.small.items t) k ⊎ ((total ≡ t) × (arrival ≡ k))
    among_only t k among =
        elim (cases_order t total) [
          | inl is_total ↦ ⊎_elim (λ old. inl (subst (λ (u : ℕ). IsAmong (bucket q.small.items u) k) (sym is_total) old)) (λ new. inr (sym is_total, new))
              (among_cases (bucket q.small.items total) arrival k (subst (λ (xs : List ℕ). IsAmong xs k) here (subst (λ (u : ℕ). IsAmong (bucket r.small.items u) k) is_total among)))
          | inr other ↦ inl (subst (λ (xs : List ℕ). IsAmong xs k) (else t (λ is_total. elim other [ inl lt ↦ omega arith | inr gt ↦ omega arith ])) among)
        ]

    stays : (g : Option ℕ) (k : ℕ) → Has q g k → Has r g k
    stays (Some t) k has =
        ⊎_elim (λ in_bucket. inl (among_stays t k in_bucket))
        (λ in_large. inr (ap (λ (l : BTreeSet (ℕ × ℕ)). contains entry_cmp l (t, k)) large ∙ in_large)) has
    stays None k has = subst (λ (xs : List ℕ). IsAmong xs k) (sym dead) has

    only : (g : Option ℕ) (k : ℕ) → Has r g k → Has q g k ⊎ ((Some total ≡ g) × (arrival ≡ k))
    only (Some t) k has =
        ⊎_elim (λ in_bucket. ⊎_elim (λ old. inl (inl old)) (λ new. inr (ap Some new.0, new.1)) (among_only t k in_bucket))
        (λ in_large. inl (inr (ap (λ (l : BTreeSet (ℕ × ℕ)). contains entry_cmp l (t, k)) (sym large) ∙ in_large))) has
    only None k has = inl (subst (λ (xs : List ℕ). IsAmong xs k) dead has)

-- an arrival of a total without a bucket
pub added_large :
    (q r : OpenQueue) (total arrival : ℕ) → IsQueueOrderly q → 65536 ≤ total → Updates entry_cmp q.large r.large (total, arrival) true
    → r.small.items ≡ q.small.items → r.least ≡ q.least → r.dead ≡ q.dead → (contains entry_cmp r.large (total, arrival) ≡ true) → IsAdded q r (Some total) arrival
added_large q r total arrival o large up small least dead there = record {
  orderly = record {
    ascends = λ t. subst (λ (bs : List (List ℕ)). IsAscending (bucket bs t)) (sym small) (o.ascends t);
    few = let len = ap length small in let few = o.few in omega arith;
    empty = λ t before. ap (λ (bs : List (List ℕ)). bucket bs t) small ∙ o.empty t (omega arith);
    greater = λ t a held.
        ⊎_elim (λ old. o.greater t a old) (λ new. let is = entry_cmp_same total arrival t a new in let first = is.0 in omega arith)
        (cond_comes (is_eq (entry_cmp (total, arrival) (t, a))) (contains entry_cmp q.large (t, a)) (sym (up.0 (t, a)) ∙ held));
    dead = subst (λ (xs : List ℕ). IsAscending xs) (sym dead) o.dead;
  };
  added = inr there;
  stays = stays;
  only = only;
}
  where
    stays : (g : Option ℕ) (k : ℕ) → Has q g k → Has r g k
    stays (Some t) k has =
        ⊎_elim (λ in_bucket. inl (subst (λ (bs : List (List ℕ)). IsAmong (bucket bs t) k) (sym small) in_bucket))
        (λ in_large. inr (up.0 (t, k) ∙ cond_stays (is_eq (entry_cmp (total, arrival) (t, k))) (contains entry_cmp q.large (t, k)) in_large)) has
    stays None k has = subst (λ (xs : List ℕ). IsAmong xs k) (sym dead) has

    only : (g : Option ℕ) (k : ℕ) → Has r g k → Has q g k ⊎ ((Some total ≡ g) × (arrival ≡ k))
    only (Some t) k has =
        ⊎_elim (λ in_bucket. inl (inl (subst (λ (bs : List (List ℕ)). IsAmong (bucket bs t) k) small in_bucket)))
        (λ in_large. ⊎_elim (λ old. inl (inr old)) (λ new. let same = entry_cmp_same total arrival t k new in inr (ap Some same.0, same.1))
        (cond_comes (is_eq (entry_cmp (total, arrival) (t, k))) (contains entry_cmp q.large (t, k)) (sym (up.0 (t, k)) ∙ in_large))) has
    only None k has = inl (subst (λ (xs : List ℕ). IsAmong xs k) dead has)

-- an arrival without a total
pub added_dead :
    (q r : OpenQueue) (arrival : ℕ) → IsQueueOrderly q → IsBelow q arrival → r.dead ≡ q.dead ++ arrival ∷ [] → r.small.items ≡ q.small.items → r.least ≡ q.least
    → r.large ≡ q.large → IsAdded q r None arrival
added_dead q r arrival o latest is small least large = record {
  orderly = record {
    ascends = λ t. subst (λ (bs : List (List ℕ)). IsAscending (bucket bs t)) (sym small) (o.ascends t);
    few = let len = ap length small in let few = o.few in omega arith;
    empty = λ t before. ap (λ (bs : List (List ℕ)). bucket bs t) small ∙ o.empty t (omega arith);
    greater = λ t a held. o.greater t a (ap (λ (l : BTreeSet (ℕ × ℕ)). contains entry_cmp l (t, a)) (sym large) ∙ held);
    dead = subst (λ (xs : List ℕ). IsAscending xs) (sym is) (ascending_push q.dead arrival o.dead (λ k among. let lt = latest None k among in omega arith));
  };
  added = subst (λ (xs : List ℕ). IsAmong xs arrival) (sym is) (among_last q.dead arrival);
  stays = stays;
  only = only;
}
  where
    stays : (g : Option ℕ) (k : ℕ) → Has q g k → Has r g k
    stays (Some t) k has =
        ⊎_elim (λ in_bucket. inl (subst (λ (bs : List (List ℕ)). IsAmong (bucket bs t) k) (sym small) in_bucket))
        (λ in_large. inr (ap (λ (l : BTreeSet (ℕ × ℕ)). contains entry_cmp l (t, k)) large ∙ in_large)) has
    stays None k has = subst (λ (xs : List ℕ). IsAmong xs k) (sym is) (among_more q.dead arrival k has)

    only : (g : Option ℕ) (k : ℕ) → Has r g k → Has q g k ⊎ ((None ≡ g) × (arrival ≡ k))
    only (Some t) k has =
        ⊎_elim (λ in_bucket. inl (inl (subst (λ (bs : List (List ℕ)). IsAmong (bucket bs t) k) small in_bucket)))
        (λ in_large. inl (inr (ap (λ (l : BTreeSet (ℕ × ℕ)). contains entry_cmp l (t, k)) (sym large) ∙ in_large))) has
    only None k has = ⊎_elim (λ old. inl old) (λ new. inr (refl, new)) (among_cases q.dead arrival k (subst (λ (xs : List ℕ). IsAmong xs k) is has))

-- ---- the first one

lacks_large : (q : OpenQueue) → q.large.keys ≡ [] → (t k : ℕ) → contains entry_cmp q.large (t, k) ≡ false
lacks_large q none t k = ap (λ (ks : List (ℕ × ℕ)). list_any (is_at (entry_cmp (t, k))) ks) none

-- the first one of the first bucket that has one
pub least_small :
    (q : OpenQueue) (total arrival : ℕ) → IsQueueOrderly q → total < length q.small.items → slice_get (bucket q.small.items total) 0 ≡ Some arrival
    → ((t : ℕ) → t < total → bucket q.small.items t ≡ []) → (g : Option ℕ) (k : ℕ) → Has q g k → IsNotAfter (Some total) arrival g k
least_small q total arrival o within at below (Some t) k has =
    ⊎_elim
    (λ in_bucket. elim (cases_order total t) [
      | inl is ↦ inr (ap Some is, first_least (bucket q.small.items total) arrival k (o.ascends total) at (subst (λ (u : ℕ). IsAmong (bucket q.small.items u) k) (sym is) in_bucket))
      | inr other ↦ elim other [
        | inl lt ↦ inl (lt-ltb total t lt)
        | inr gt ↦ absurd (none_among (bucket q.small.items t) k (below t gt) in_bucket)
      ]
    ])
    (λ in_large. let ge = o.greater t k in_large in let few = o.few in inl (lt-ltb total t (omega arith))) has
least_small q total arrival o within at below None k has = inl refl

-- the first one of those without a bucket, where no bucket has one
pub least_large :
    (q : OpenQueue) (total arrival : ℕ) → ((t : ℕ) → bucket q.small.items t ≡ []) → IsLowerBound entry_cmp q.large (total, arrival)
    → (g : Option ℕ) (k : ℕ) → Has q g k → IsNotAfter (Some total) arrival g k
least_large q total arrival none least (Some t) k has =
    ⊎_elim (λ in_bucket. absurd (none_among (bucket q.small.items t) k (none t) in_bucket))
    (λ in_large. entry_cmp_not_greater total arrival t k (least (t, k) in_large)) has
least_large q total arrival none least None k has = inl refl

-- the first one of those without a total, if there are no others
pub least_dead :
    (q : OpenQueue) (arrival : ℕ) → IsQueueOrderly q → ((t : ℕ) → bucket q.small.items t ≡ []) → q.large.keys ≡ [] → slice_get q.dead 0 ≡ Some arrival
    → (g : Option ℕ) (k : ℕ) → Has q g k → IsNotAfter None arrival g k
least_dead q arrival o none no_large at (Some t) k has =
    ⊎_elim (λ in_bucket. absurd (none_among (bucket q.small.items t) k (none t) in_bucket))
    (λ in_large. let lacks = lacks_large q no_large t k in absurd (cc)) has
least_dead q arrival o none no_large at None k has = inr (refl, first_least q.dead arrival k o.dead at has)

pub has_none :
    (q : OpenQueue) → ((t : ℕ) → bucket q.small.items t ≡ []) → q.large.keys ≡ [] → slice_get q.dead 0 ≡ None → (g : Option ℕ) (k : ℕ) → Has q g k → ⊥
has_none q none no_large no_dead (Some t) k has =
    ⊎_elim (λ in_bucket. none_among (bucket q.small.items t) k (none t) in_bucket)
    (λ in_large. let lacks = lacks_large q no_large t k in absurd (cc)) has
has_none q none no_large no_dead None k has = no_first q.dead no_dead has
  where
    no_first : (xs : List ℕ) → slice_get xs 0 ≡ None → IsAmong xs k → ⊥
    no_first [] is among = among
    no_first (x ∷ xs) is among = absurd (cc)

pub if_none : {X : Type 0} (P : Type 0) (r : Option X) → P → IfNone r P
if_none P None p = p
if_none P (Some x) p = _

-- ---- entries that are dropped

pub cleared_same : (words xs : List ℕ) → AreCleared words xs xs
cleared_same words xs = record { stays = λ k marked among. among; only = λ k among. among; ascends = λ up. up }

-- the first one goes
pub cleared_rest :
    (words xs ys : List ℕ) (a : ℕ) → AreCleared words xs ys → slice_get ys 0 ≡ Some a → (slot_bit words a ≡ 1 → ⊥) → AreCleared words xs (drop 1 ys)
cleared_rest words xs ys a c at stale = record {
  stays = λ k marked among.
      ⊎_elim (λ rest. rest) (λ same. absurd (stale (ap (slot_bit words) same ∙ marked))) (among_rest ys a k at (c.stays k marked among));
  only = λ k among. c.only k (among_of_rest ys k among);
  ascends = λ up. ascending_rest ys (c.ascends up);
}

cleared_more : (words xs ys zs : List ℕ) → AreCleared words xs ys → AreCleared words ys zs → AreCleared words xs zs
cleared_more words xs ys zs c d = record {
  stays = λ k marked among. d.stays k marked (c.stays k marked among);
  only = λ k among. c.only k (d.only k among);
  ascends = λ up. d.ascends (c.ascends up);
}

-- where there was none, there is none
cleared_none : (words xs ys : List ℕ) → AreCleared words xs ys → xs ≡ [] → ys ≡ []
cleared_none words xs [] c none = refl
cleared_none words xs (y ∷ ys) c none = absurd (none_among xs y none (c.only y (inl refl)))

-- a bucket more is cleared
pub cleared_bucket :
    (words : List ℕ) (first small : List (List ℕ)) (total : ℕ) (b : List ℕ) → total < length small
    → ((t : ℕ) → AreCleared words (bucket first t) (bucket small t)) → AreCleared words (bucket small total) b
    → (t : ℕ) → AreCleared words (bucket first t) (bucket (set small total b) t)
cleared_bucket words first small total b within each here t =
    elim (cases_order t total) [
      | inl is ↦ subst (λ (u : ℕ). AreCleared words (bucket first u) (bucket (set small total b) u)) (sym is)
          (subst (λ (xs : List ℕ). AreCleared words (bucket first total) xs) (sym (bucket_here small total b within))
          (cleared_more words (bucket first total) (bucket small total) b (each total) here))
      | inr other ↦ subst (λ (xs : List ℕ). AreCleared words (bucket first t) xs)
          (sym (bucket_else small total t b (λ is. elim other [ inl lt ↦ omega arith | inr gt ↦ omega arith ]))) (each t)
    ]

-- buckets that were empty are, and so are those after them
pub empty_below :
    (words : List ℕ) (q : OpenQueue) (small : List (List ℕ)) (total : ℕ) → IsQueueOrderly q
    → ((t : ℕ) → AreCleared words (bucket q.small.items t) (bucket small t)) → ((t : ℕ) → q.least ≤ t → t < total → bucket small t ≡ [])
    → (t : ℕ) → t < total → bucket small t ≡ []
empty_below words q small total o each none t lt =
    elim (cases_lt t q.least) [
      | inl before ↦ cleared_none words (bucket q.small.items t) (bucket small t) (each t) (o.empty t before)
      | inr le ↦ none t le lt
    ]

pub all_empty :
    (words : List ℕ) (q : OpenQueue) (small : List (List ℕ)) → IsQueueOrderly q → ((t : ℕ) → AreCleared words (bucket q.small.items t) (bucket small t))
    → ((t : ℕ) → q.least ≤ t → bucket small t ≡ []) → (t : ℕ) → bucket small t ≡ []
all_empty words q small o each none t = empty_below words q small (t + 1) o each (λ u le lt. none u le) t (omega arith)

-- the sorted ones

pub large_stays :
    (r : Option (ℕ × ℕ)) (old new : BTreeSet (ℕ × ℕ)) (words : List ℕ) (x : ℕ × ℕ) (t k : ℕ)
    → IfSome r (λ y. Updates entry_cmp old new y false) → IfNone r (IsUnchanged old new) → IfSome r (λ y. old.keys ≡ y ∷ new.keys)
    → slice_get old.keys 0 ≡ Some x → (slot_bit words x.1 ≡ 1 → ⊥) → slot_bit words k ≡ 1 → contains entry_cmp old (t, k) ≡ true
    → contains entry_cmp new (t, k) ≡ true
large_stays (Some y) old new words x t k up same head at stale marked held =
    ⊎_elim (λ stays. up.0 (t, k) ∙ stays)
    (λ is. let gone = entry_cmp_same y.0 y.1 t k is in
    let first : y ≡ x = same_Some y x (ap (λ (ks : List (ℕ × ℕ)). slice_get ks 0) (sym head) ∙ at) in
    absurd (stale (ap (slot_bit words) (ap (λ (z : ℕ × ℕ). z.1) (sym first) ∙ gone.1) ∙ marked)))
    (cond_goes (is_eq (entry_cmp y (t, k))) (contains entry_cmp old (t, k)) held)
large_stays None old new words x t k up same head at stale marked held =
    ap (λ (ks : List (ℕ × ℕ)). list_any (is_at (entry_cmp (t, k))) ks) same ∙ held

pub large_only :
    (r : Option (ℕ × ℕ)) (old new : BTreeSet (ℕ × ℕ)) (x : ℕ × ℕ) → IfSome r (λ k. Updates entry_cmp old new k false) → IfNone r (IsUnchanged old new)
    → contains entry_cmp new x ≡ true → contains entry_cmp old x ≡ true
large_only (Some k) old new x up same held = cond_went (is_eq (entry_cmp k x)) (contains entry_cmp old x) (sym (up.0 x) ∙ held)
large_only None old new x up same held = ap (λ (ks : List (ℕ × ℕ)). list_any (is_at (entry_cmp x)) ks) (sym same) ∙ held

-- the whole queue
pub cleared_queue :
    (words : List ℕ) (q r : OpenQueue) → IsQueueOrderly q → ((t : ℕ) → AreCleared words (bucket q.small.items t) (bucket r.small.items t))
    → length r.small.items ≡ length q.small.items → ((t : ℕ) → t < r.least → bucket r.small.items t ≡ [])
    → ((t k : ℕ) → slot_bit words k ≡ 1 → contains entry_cmp q.large (t, k) ≡ true → contains entry_cmp r.large (t, k) ≡ true)
    → ((t k : ℕ) → contains entry_cmp r.large (t, k) ≡ true → contains entry_cmp q.large (t, k) ≡ true)
    → AreCleared words q.dead r.dead → IsCleared words q r
cleared_queue words q r o small len empty large_stay large_few dead = record {
  stays = stays;
  only = only;
  orderly = record {
    ascends = λ t. (small t).ascends (o.ascends t);
    few = let few = o.few in omega arith;
    empty = empty;
    greater = λ t a held. o.greater t a (large_few t a held);
    dead = dead.ascends o.dead;
  };
}
  where
    stays : (g : Option ℕ) (k : ℕ) → slot_bit words k ≡ 1 → Has q g k → Has r g k
    stays (Some t) k marked has = ⊎_elim (λ in_bucket. inl ((small t).stays k marked in_bucket)) (λ in_large. inr (large_stay t k marked in_large)) has
    stays None k marked has = dead.stays k marked has

    only : (g : Option ℕ) (k : ℕ) → Has r g k → Has q g k
    only (Some t) k has = ⊎_elim (λ in_bucket. inl ((small t).only k in_bucket)) (λ in_large. inr (large_few t k in_large)) has
    only None k has = dead.only k has

pub first_among : (xs : List ℕ) (a : ℕ) → slice_get xs 0 ≡ Some a → IsAmong xs a
first_among [] a at = absurd (none-some a at)
first_among (x ∷ xs) a at = inl (same_Some x a at)

-- a bucket that has a first one is there
pub bucket_within : (small : List (List ℕ)) (t a : ℕ) → slice_get (bucket small t) 0 ≡ Some a → t < length small
bucket_within small t a at =
    elim (cases_lt t (length small)) [
      | inl lt ↦ lt
      | inr le ↦ absurd (none-some a (sym (ap (λ (xs : List ℕ). slice_get xs 0) (bucket_past small t le)) ∙ at))
    ]

pub no_first : (xs : List ℕ) → xs ≡ [] → slice_get xs 0 ≡ None
no_first xs none = ap (λ (ys : List ℕ). slice_get ys 0) none

-- the first one of those without a total, if there are no others, is the first of all
pub found_dead :
    (words : List ℕ) (q : OpenQueue) (found : Option ℕ) → IsQueueOrderly q → ((t : ℕ) → bucket q.small.items t ≡ []) → q.large.keys ≡ []
    → IfSome found (λ a. slice_get q.dead 0 ≡ Some a) → IfSome found (λ a. slot_bit words a ≡ 1) → IfSome found (IsFirstWaiting words q)
found_dead words q (Some a) o none no_large at marked = record {
  total = None;
  has = first_among q.dead a at;
  marked = marked;
  least = λ g k has. least_dead q a o none no_large at g k has;
}
found_dead words q None o none no_large at marked = _

-- ---- nodes and their entries

module _ {A : Type 0} (total : A → Option ℕ) where
  -- stale entries go
  pub queued_cleared :
      (slots : List (Option A)) (words : List ℕ) (q r : OpenQueue) → AreMarks slots words → IsQueued total slots q → IsCleared words q r → IsQueued total slots r
  queued_cleared slots words q r m queued c k x at = c.stays (total x) k (filled_is_marked slots words k x m at) (queued k x at)

  -- a node comes after the others
  pub queued_push :
      (slots : List (Option A)) (q : OpenQueue) (x : A)
      → IsQueued total slots q → Has q (total x) (length slots)
      → IsQueued total (slots ++ Some x ∷ []) q
  queued_push slots q x queued new k y at =
      ⊎_elim (λ last.
      let same : x ≡ y = same_Some x y last.1 in
      subst (λ (i : ℕ). Has q (total y) i) last.0 (subst (λ (z : A). Has q (total z) (length slots)) same new))
      (λ else. queued k y else) (slice_get-push_else slots k (Some x) (Some y) at)

  -- a node goes
  pub queued_left : (slots : List (Option A)) (q : OpenQueue) (i : ℕ) → IsQueued total slots q → IsQueued total (set slots i None) q
  queued_left slots q i queued k y at =
      ⊎_elim (λ here. absurd (none-some y here.1)) (λ else. queued k y else) (slice_get-set_else slots i k None (Some y) at)

  -- a node comes back
  pub queued_back :
      (slots : List (Option A)) (q : OpenQueue) (i : ℕ) (x : A) (t : Option ℕ)
      → IsQueued total slots q → Has q t i → t ≡ total x → IsQueued total (set slots i (Some x)) q
  queued_back slots q i x t queued waiting is k y at =
      ⊎_elim (λ here.
      let same : x ≡ y = same_Some x y here.1 in
      let now : Has q (total x) i = subst (λ (u : Option ℕ). Has q u i) is waiting in
      subst (λ (j : ℕ). Has q (total y) j) here.0 (subst (λ (z : A). Has q (total z) i) same now))
      (λ else. queued k y else) (slice_get-set_else slots i k (Some x) (Some y) at)

  -- where the queue has nothing, there are no nodes
  pub queued_none : (slots : List (Option A)) (q : OpenQueue) → IsQueued total slots q → ((g : Option ℕ) (k : ℕ) → Has q g k → ⊥) → live slots ≡ []
  queued_none slots q queued none = live_none slots (λ k x at. none (total x) k (queued k x at))

  -- the first entry whose slot is marked is that of the best node
  pub first_best :
      (slots : List (Option A)) (words : List ℕ) (q : OpenQueue) (a : ℕ)
      → AreMarks slots words → IsQueued total slots q → IsSingle q → IsFirstWaiting words q a → IsBestArrival total slots a
  first_best slots words q a m queued single f =
      let here = marked_filled slots words a m f.marked in
      let same : f.total ≡ total here.0 = single f.total (total here.0) a f.has (queued a here.0 here.1) in
      record {
        node = here.0;
        there = here.1;
        least = λ k other at. subst (λ (u : Option ℕ). IsNotAfter u a (total other) k) same (f.least (total other) k (queued k other at));
      }

  -- the same, of what a call has found
  pub best_found :
      (slots : List (Option A)) (words ws : List ℕ) (q : OpenQueue) (found : Option ℕ)
      → AreMarks slots words → ws ≡ words → IsQueued total slots q → IsSingle q → IfSome found (IsFirstWaiting ws q)
      → IfSome found (λ a. IsBestArrival total slots a)
  best_found slots words ws q (Some a) m is queued single f =
      first_best slots words q a m queued single (subst (λ (vs : List ℕ). IsFirstWaiting vs q a) is f)
  best_found slots words ws q None m is queued single f = f

  pub none_found :
      (slots : List (Option A)) (q : OpenQueue) (found : Option ℕ)
      → IsQueued total slots q → IfNone found ((g : Option ℕ) (k : ℕ) → Has q g k → ⊥) → IfNone found (live slots ≡ [])
  none_found slots q (Some a) queued none = none
  none_found slots q None queued none = queued_none slots q queued none

-- ---- the greatest arrival, and the totals of arrivals

pub below_less : (q r : OpenQueue) (n : ℕ) → IsBelow q n → ((g : Option ℕ) (k : ℕ) → Has r g k → Has q g k) → IsBelow r n
below_less q r n latest only g k has = latest g k (only g k has)

pub below_added :
    (q r : OpenQueue) (t : Option ℕ) (n : ℕ) → IsBelow q n → ((g : Option ℕ) (k : ℕ) → Has r g k → Has q g k ⊎ ((t ≡ g) × (n ≡ k))) → IsBelow r (n + 1)
below_added q r t n latest only g k has =
    ⊎_elim (λ old. let lt = latest g k old in omega arith) (λ new. let is = new.1 in omega arith) (only g k has)

pub single_less : (q r : OpenQueue) → IsSingle q → ((g : Option ℕ) (k : ℕ) → Has r g k → Has q g k) → IsSingle r
single_less q r single only g h k one other = single g h k (only g k one) (only h k other)

pub single_added :
    (q r : OpenQueue) (t : Option ℕ) (n : ℕ) → IsSingle q → IsBelow q n → ((g : Option ℕ) (k : ℕ) → Has r g k → Has q g k ⊎ ((t ≡ g) × (n ≡ k)))
    → IsSingle r
single_added q r t n single latest only g h k one other =
    ⊎_elim
    (λ old. ⊎_elim (λ old'. single g h k old old') (λ new'. absurd (past g old new'.1)) (only h k other))
    (λ new. ⊎_elim (λ old'. absurd (past h old' new.1)) (λ new'. sym new.0 ∙ new'.0) (only h k other)) (only g k one)
  where
    past : (u : Option ℕ) → Has q u k → n ≡ k → ⊥
    past u has is = let lt = latest u k has in omega arith
