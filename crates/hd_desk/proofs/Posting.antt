-- Each step keeps the rule of a mailbox.
use Rattle.std.proofs.Common.{◌≡◌, ◌≢◌, ℕ, zero, suc, ◌+◌, ◌-◌, ◌<◌, List, [], ◌∷◌, ◌++◌, Option, Some, None, set, length, refl, sym, ap, ◌∙◌, subst, ⊎_elim, arith}
use Rattle.std.specs.List.{sum_by, AllByRecursion}
use Rattle.std.proofs.lemmas.List.Sums.{sum_by-cons, sum_by-append, sum_by_push}
use mathlib.Core.Option.{some, some-injective, some-ne-none}
use lib.ListN.{get_elem?}
use Rattle.atomic_table.proofs.Lists.{set_else}
use Rattle.crossbeam_queue.specs.Fifo.{Pushes, Pops, Forks, Merges, Learns}
use Rattle.crossbeam_queue.proofs.Lists.{at_set, at_snoc}
use Rattle.hd_base.proofs.Lists.{AllByRecursion-push}
use Rattle.hd_desk.proofs.BoundSums.{sum_by-set_elem, sum_by_zero}
use Rattle.hd_desk.specs.declared.rule.Post.{Post}
use Rattle.hd_desk.specs.declared.rule.TheConstants.{ALL_PARTS}
use Rattle.hd_desk.specs.Mail.{post, spent_pass, parts_in, weight_put, weight_taken, IsPassFor, IsFair, HasPut, HasNamed, HasTaken, HasCleared, IsEven}

-- a sum to which nothing adds anything
sum_by_none : {X : Type 0} (f : X → ℕ) (xs : List X) → ((i : ℕ) (x : X) → get_elem? xs i ≡ some x → f x ≡ 0) → sum_by f xs ≡ 0
sum_by_none f [] none = refl
sum_by_none f (x ∷ xs) none =
    let first : f x ≡ 0 = none zero x refl in
    let rest : sum_by f xs ≡ 0 = sum_by_none f xs (λ i y at. none (suc i) y at) in
    let all = sum_by-cons f x xs in
    omega arith

-- nothing is there where a weight of 1 each is nothing
nil_from_weight : {X : Type 0} (xs : List X) → sum_by (λ (x : X). 1) xs ≡ 0 → xs ≡ []
nil_from_weight {X = X} [] none = refl
nil_from_weight {X = X} (x ∷ xs) none = let all = sum_by-cons (λ (y : X). 1) x xs in absurd (omega arith)

module _ {K A : Type 0} where
  -- ---- what is known of one pass

  -- a pass with a part knows what items are of
  has_part : (same : Option K) (v : Post K A) → 0 < v.parts → v.of ≡ same → IsPassFor same v
  has_part same v some_part is = record { idle_put = λ none. absurd (omega arith); idle_taken = λ none. absurd (omega arith); knows = λ _. is }

  -- a pass without one knows nothing of it
  has_none : (same other : Option K) (v : Post K A) → v.parts ≡ 0 → IsPassFor same v → IsPassFor other v
  has_none same other v none k = record { idle_put = k.idle_put; idle_taken = k.idle_taken; knows = λ some_part. absurd (omega arith) }

  -- where one pass has all parts, each other has none
  none_left :
      (views : List (Post K A)) (seat other : ℕ) (v u : Post K A)
      → get_elem? views seat ≡ some v → parts_in views ≡ v.parts → other ≢ seat
      → get_elem? views other ≡ some u → u.parts ≡ 0
  none_left views seat other v u at all apart there =
      let sums = sum_by-set_elem (λ (p : Post K A). p.parts) views seat v spent_pass at in
      sum_by_zero (λ (p : Post K A). p.parts) (set views seat spent_pass) other u (omega arith) (set_else views seat other spent_pass apart ∙ there)

  -- ---- a pass steps

  -- the stepping pass knows what items are of, as the others do
  known_after :
      (same : Option K) (views : List (Post K A)) (seat : ℕ) (w : Post K A)
      → 0 < w.parts → w.of ≡ same
      → ((j : ℕ) (u : Post K A) → get_elem? views j ≡ some u → IsPassFor same u)
      → (j : ℕ) (u : Post K A) → get_elem? (set views seat w) j ≡ some u → IsPassFor same u
  known_after same views seat w some_part is known j u there =
      ⊎_elim (λ here. subst (λ (x : Post K A). IsPassFor same x) here.1 (has_part same w some_part is)) (λ else. known j u else.1) (at_set views seat j w u there)

  -- the parts stay where the stepping pass keeps its own
  parts_stay : (views : List (Post K A)) (seat : ℕ) (v w : Post K A) → get_elem? views seat ≡ some v → w.parts ≡ v.parts → parts_in (set views seat w) ≡ parts_in views
  parts_stay views seat v w at same = let s = sum_by-set_elem (λ (u : Post K A). u.parts) views seat v w at in omega arith

  module _ (of : A → K) where
    pub begins : IsFair of [] (post ALL_PARTS None [] [] ∷ [])
    begins = record { same = None; whole = refl; even = λ h. refl; all_of = tt; known = first }
      where
        first : (seat : ℕ) (v : Post K A) → get_elem? (post ALL_PARTS None [] [] ∷ []) seat ≡ some v → IsPassFor None v
        first zero v at = subst (λ (x : Post K A). IsPassFor None x) (some-injective (post ALL_PARTS None [] []) v at) (has_part None (post ALL_PARTS None [] []) (omega arith) refl)
        first (suc seat) v at = absurd (some-ne-none v (sym at))

    pub puts :
        (n seat : ℕ) (v : Post K A) (x : A)
        → 0 < v.parts → v.of ≡ Some (of x)
        → Pushes (IsFair of) n seat v x (HasPut v x)
    puts n seat v x some_part is items views room b at =
        let w : Post K A = post v.parts v.of (v.put ++ x ∷ []) v.taken in
        let same : b.same ≡ Some (of x) = sym ((b.known seat v at).knows some_part) ∙ is in (
          w,
          record {
            same = b.same;
            whole = parts_stay views seat v w at refl ∙ b.whole;
            even = λ h.
                let p = sum_by-set_elem (weight_put h) views seat v w at in
                let t = sum_by-set_elem (weight_taken h) views seat v w at in
                let more = sum_by_push h v.put x in
                let longer = sum_by_push h items x in
                let old = b.even h in
                omega arith;
            all_of = AllByRecursion-push (λ (y : A). b.same ≡ Some (of y)) items x b.all_of same;
            known = known_after b.same views seat w some_part ((b.known seat v at).knows some_part) b.known;
          },
          refl,
        )

    pub takes : (seat : ℕ) (v : Post K A) → 0 < v.parts → Pops (IsFair of) seat v (HasTaken of v)
    takes seat v some_part x items views b at =
        let w : Post K A = post v.parts v.of v.put (v.taken ++ x ∷ []) in
        let is = (b.known seat v at).knows some_part in (
          w,
          record {
            same = b.same;
            whole = parts_stay views seat v w at refl ∙ b.whole;
            even = λ h.
                let p = sum_by-set_elem (weight_put h) views seat v w at in
                let t = sum_by-set_elem (weight_taken h) views seat v w at in
                let more = sum_by_push h v.taken x in
                let first = sum_by-cons h x items in
                let old = b.even h in
                omega arith;
            all_of = b.all_of.1;
            known = known_after b.same views seat w some_part is b.known;
          },
          record { left = refl; fits = is ∙ b.all_of.0 },
        )

    -- ---- a pass with all parts knows the whole

    idle_others :
        (items : List A) (views : List (Post K A)) (seat : ℕ) (v : Post K A)
        → IsFair of items views → get_elem? views seat ≡ some v → v.parts ≡ ALL_PARTS
        → (j : ℕ) (u : Post K A) → j ≢ seat → get_elem? views j ≡ some u → (u.put ≡ []) × (u.taken ≡ [])
    idle_others items views seat v b at all j u apart there =
        let none : u.parts ≡ 0 = none_left views seat j v u at (b.whole ∙ sym all) apart there in
        ((b.known j u there).idle_put none, (b.known j u there).idle_taken none)

    whole_put :
        (items : List A) (views : List (Post K A)) (seat : ℕ) (v : Post K A)
        → IsFair of items views → get_elem? views seat ≡ some v → v.parts ≡ ALL_PARTS
        → (h : A → ℕ) → sum_by (weight_put h) views ≡ sum_by h v.put
    whole_put items views seat v b at all h =
        let sums = sum_by-set_elem (weight_put h) views seat v spent_pass at in
        let rest : sum_by (weight_put h) (set views seat spent_pass) ≡ 0 = sum_by_none (weight_put h) (set views seat spent_pass)
        (λ j u there. ⊎_elim (λ here. ap (weight_put h) (sym here.1)) (λ else. ap (sum_by h) (idle_others items views seat v b at all j u else.0 else.1).0) (at_set views seat j spent_pass u there)) in
        omega arith

    whole_taken :
        (items : List A) (views : List (Post K A)) (seat : ℕ) (v : Post K A)
        → IsFair of items views → get_elem? views seat ≡ some v → v.parts ≡ ALL_PARTS
        → (h : A → ℕ) → sum_by (weight_taken h) views ≡ sum_by h v.taken
    whole_taken items views seat v b at all h =
        let sums = sum_by-set_elem (weight_taken h) views seat v spent_pass at in
        let rest : sum_by (weight_taken h) (set views seat spent_pass) ≡ 0 = sum_by_none (weight_taken h) (set views seat spent_pass)
        (λ j u there. ⊎_elim (λ here. ap (weight_taken h) (sym here.1)) (λ else. ap (sum_by h) (idle_others items views seat v b at all j u else.0 else.1).1) (at_set views seat j spent_pass u there)) in
        omega arith

    -- of items none of which was put, or one, what a mailbox with so many shows
    pub not_full : (v : Post K A) (items : List A) → v.put ≡ [] → v.taken ≡ [] → 0 < length items → IsEven v items → ⊥
    not_full v [] no_put no_taken there even = omega arith
    not_full v (x ∷ items) no_put no_taken there even =
        let count = even (λ (z : A). 1) in
        let put = ap (sum_by (λ (z : A). 1)) no_put in
        let taken = ap (sum_by (λ (z : A). 1)) no_taken in
        let first = sum_by-cons (λ (z : A). 1) x items in
        omega arith

    pub not_empty : (v : Post K A) (x : A) (items : List A) → v.put ≡ x ∷ [] → v.taken ≡ [] → length items ≡ 0 → IsEven v items → ⊥
    not_empty v x (y ∷ items) one no_taken none even = omega arith
    not_empty v x [] one no_taken none even =
        let count = even (λ (z : A). 1) in
        let put = ap (sum_by (λ (z : A). 1)) one in
        let taken = ap (sum_by (λ (z : A). 1)) no_taken in
        omega arith

    pub learns : (seat : ℕ) (v : Post K A) → v.parts ≡ ALL_PARTS → Learns (IsFair of) seat v (IsEven v)
    learns seat v all items views b at h =
        let p = whole_put items views seat v b at all h in
        let t = whole_taken items views seat v b at all h in
        let old = b.even h in
        omega arith

    -- the first item names what all are of
    unnamed : (same : Option K) (items : List A) → same ≡ None → AllByRecursion (λ y. same ≡ Some (of y)) items → items ≡ []
    unnamed same [] none all = refl
    unnamed same (x ∷ items) none all = let first = sym none ∙ all.0 in absurd (cc)

    pub names :
        (n seat : ℕ) (v : Post K A) (x : A)
        → v.parts ≡ ALL_PARTS → v.of ≡ None
        → Pushes (IsFair of) n seat v x (HasNamed of v x)
    names n seat v x all none items views room b at =
        let w : Post K A = post v.parts (Some (of x)) (v.put ++ x ∷ []) v.taken in
        let some_part : 0 < v.parts = subst (λ (k : ℕ). 0 < k) (sym all) (omega arith) in
        let unknown : b.same ≡ None = sym ((b.known seat v at).knows some_part) ∙ none in
        let empty : items ≡ [] = unnamed b.same items unknown b.all_of in (
          w,
          record {
            same = Some (of x);
            whole = parts_stay views seat v w at refl ∙ b.whole;
            even = λ h.
                let p = sum_by-set_elem (weight_put h) views seat v w at in
                let t = sum_by-set_elem (weight_taken h) views seat v w at in
                let more = sum_by_push h v.put x in
                let longer = sum_by_push h items x in
                let old = b.even h in
                omega arith;
            all_of = subst (λ (xs : List A). AllByRecursion (λ y. Some (of x) ≡ Some (of y)) (xs ++ x ∷ [])) (sym empty) (refl, tt);
            known = λ j u there. ⊎_elim (λ here. subst (λ (y : Post K A). IsPassFor (Some (of x)) y) here.1 (has_part (Some (of x)) w some_part refl))
                (λ else. has_none b.same (Some (of x)) u (none_left views seat j v u at (b.whole ∙ sym all) else.0 else.1) (b.known j u else.1)) (at_set views seat j w u there);
          },
          refl,
        )

    -- it is taken out again
    pub clears :
        (seat : ℕ) (v : Post K A) (y : A)
        → v.parts ≡ ALL_PARTS → v.put ≡ y ∷ [] → v.taken ≡ []
        → Pops (IsFair of) seat v (HasCleared of v)
    clears seat v y all one none x items views b at =
        let w : Post K A = post v.parts v.of [] [] in
        let some_part : 0 < v.parts = subst (λ (k : ℕ). 0 < k) (sym all) (omega arith) in
        let is = (b.known seat v at).knows some_part in
        let even : IsEven v (x ∷ items) = learns seat v all (x ∷ items) views b at in
        let empty : items ≡ [] =
        nil_from_weight items
        (let count = even (λ (z : A). 1) in
        let put = ap (sum_by (λ (z : A). 1)) one in
        let taken = ap (sum_by (λ (z : A). 1)) none in
        let first = sum_by-cons (λ (z : A). 1) x items in
        omega arith) in (
          w,
          record {
            same = b.same;
            whole = parts_stay views seat v w at refl ∙ b.whole;
            even = λ h.
                let p = sum_by-set_elem (weight_put h) views seat v w at in
                let t = sum_by-set_elem (weight_taken h) views seat v w at in
                let put = whole_put (x ∷ items) views seat v b at all h in
                let taken = whole_taken (x ∷ items) views seat v b at all h in
                let nothing = ap (sum_by h) empty in
                omega arith;
            all_of = b.all_of.1;
            known = known_after b.same views seat w some_part is b.known;
          },
          record { left = refl; fits = is ∙ b.all_of.0 },
        )

    -- ---- passes are cut and joined

    pub forks : (seat : ℕ) (v : Post K A) → 1 < v.parts → Forks (IsFair of) seat v (post (v.parts - 1) v.of v.put v.taken) (post 1 v.of [] [])
    forks seat v some_parts items views b at =
        let l : Post K A = post (v.parts - 1) v.of v.put v.taken in
        let r : Post K A = post 1 v.of [] [] in
        let is : v.of ≡ b.same = (b.known seat v at).knows (omega arith) in
        record {
          same = b.same;
          whole =
              let s = sum_by-set_elem (λ (u : Post K A). u.parts) views seat v l at in
              let more = sum_by_push (λ (u : Post K A). u.parts) (set views seat l) r in
              let old = b.whole in
              omega arith;
          even = λ h.
              let p = sum_by-set_elem (weight_put h) views seat v l at in
              let t = sum_by-set_elem (weight_taken h) views seat v l at in
              let more = sum_by_push (weight_put h) (set views seat l) r in
              let least = sum_by_push (weight_taken h) (set views seat l) r in
              let old = b.even h in
              omega arith;
          all_of = b.all_of;
          known = λ j u there. ⊎_elim (λ old. known_after b.same views seat l (omega arith) is b.known j u old)
              (λ new. subst (λ (x : Post K A). IsPassFor b.same x) new (has_part b.same r (omega arith) is)) (at_snoc (set views seat l) r u j there);
        }

    pub merges :
        (seat : ℕ) (v : Post K A) (other : ℕ) (w : Post K A)
        → 0 < v.parts
        → Merges (IsFair of) seat v other w (post (v.parts + w.parts) v.of (v.put ++ w.put) (v.taken ++ w.taken)) spent_pass
    merges seat v other w some_part items views b at apart there =
        let both : Post K A = post (v.parts + w.parts) v.of (v.put ++ w.put) (v.taken ++ w.taken) in
        let is : v.of ≡ b.same = (b.known seat v at).knows some_part in
        record {
          same = b.same;
          whole =
              let first = sum_by-set_elem (λ (u : Post K A). u.parts) views seat v both at in
              let second = sum_by-set_elem (λ (u : Post K A). u.parts) (set views seat both) other w spent_pass there in
              let old = b.whole in
              omega arith;
          even = λ h.
              let p = sum_by-set_elem (weight_put h) views seat v both at in
              let q = sum_by-set_elem (weight_put h) (set views seat both) other w spent_pass there in
              let t = sum_by-set_elem (weight_taken h) views seat v both at in
              let s = sum_by-set_elem (weight_taken h) (set views seat both) other w spent_pass there in
              let put = sum_by-append h v.put w.put in
              let taken = sum_by-append h v.taken w.taken in
              let old = b.even h in
              omega arith;
          all_of = b.all_of;
          known = λ j u at_last. ⊎_elim
              (λ here. subst (λ (x : Post K A). IsPassFor b.same x) here.1 (record { idle_put = λ _. refl; idle_taken = λ _. refl; knows = λ some_more. absurd (omega arith) }))
              (λ else. known_after b.same views seat both (omega arith) is b.known j u else.1) (at_set (set views seat both) other j spent_pass u at_last);
        }
