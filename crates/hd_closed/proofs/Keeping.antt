-- What a closed list keeps, as states come, estimates are made and expansions are closed and named.
use Rattle.std.proofs.Common.{◌≡◌, ◌≢◌, ◌⊎◌, inl, inr, ⊎_elim, ℕ, zero, suc, ◌+◌, ◌<◌, ◌≤◌, Bool, true, false, cond, nat_le, List, [], ◌∷◌, ◌++◌, Option, Some, None, map, set, take, drop, length, get_or, slice_get, Contains, IfSome, IfNone, refl, sym, ap, ap₂, ◌∙◌, subst, arith, length-append, length-set, append-nil, drop_of_length-le, take_all}
use Rattle.std.specs.Prelude.{option_map}
use Rattle.std.specs.List.{AllByRecursion}
use Rattle.std.proofs.lemmas.Bool.{cases_lt, leb-true, leb-false, ltb-true, ltb-false}
use Rattle.std.proofs.lemmas.List.{length-map}
use Rattle.std.proofs.lemmas.Option.{none-some, same_Some, slice_get_within, slice_get-map, slice_get_read, get_or_from_slice_get}
use Rattle.hd_base.proofs.Lists.{AllByRecursion-push, AllByRecursion-slice_get}
use Rattle.hd_base.proofs.Members.{Contains-map, IsFrom-from_map, Contains-first, Contains-later}
use Rattle.hd_base.proofs.Places.{place_of}
use Rattle.hd_task.specs.declared.state.State.{State}
use Rattle.hd_task.specs.declared.task.Task.{Task}
use Rattle.hd_task.specs.Plans.{IsStateOf}
use Rattle.hd_hmax.specs.declared.estimate.EstimateValue.{EstimateValue}
use Rattle.hd_hmax.specs.Rounds.{hmax}
use Rattle.hd_hmax.proofs.Cheapest.{slice_get_there}
use Rattle.hd_hmax.specs.Value.{estimated}
use Rattle.hd_node.specs.declared.batch.By.{By}
use Rattle.hd_node.specs.declared.batch.By.TheVariants.{Entry, Here}
use Rattle.hd_closed.specs.declared.notes.Note.{Note}
use Rattle.hd_closed.specs.declared.closed.Shut.{Shut}
use Rattle.hd_closed.specs.Closed.{Closed, state_at, nothing, IsClosedAt, IsNamedBy, IsDearer}
use Rattle.hd_closed.specs.Notes.{note_of, IsAlike, AreAlike, IsTable}
use Rattle.hd_closed.specs.Numbering.{numbered, closed_numbered}
use Rattle.hd_closed.specs.Shut.{closed_of, IsEntered, HasNumbered, shut_numbered, is_cheaper_than, is_cheaper, no_dearer_than, no_dearer, IsNoted, IsCheapest, IsLeastOf, IsClosedListKept}
use Rattle.hd_closed.proofs.Chains.{get_front, get_back, get_last, get_push, get_set_same, get_set_other, get_set, same_or_not, table_set}

-- ---- lists

-- lists with the same elements at each place are the same
pub same_list : {X : Type 0} (xs ys : List X) → length xs ≡ length ys → ((k : ℕ) (x : X) → slice_get xs k ≡ Some x → slice_get ys k ≡ Some x) → xs ≡ ys
same_list [] [] len each = refl
same_list [] (y ∷ ys) len each = absurd (omega arith)
same_list (x ∷ xs) [] len each = absurd (omega arith)
same_list {X} (x ∷ xs) (y ∷ ys) len each =
    ap₂ (λ (z : X) (zs : List X). z ∷ zs) (sym (same_Some y x (each zero x refl))) (same_list xs ys (omega arith) (λ k z at. each (suc k) z at))

-- a change that a function does not see
pub map-set_same : {X Y : Type 0} (f : X → Y) (xs : List X) (i : ℕ) (x y : X) → slice_get xs i ≡ Some x → f y ≡ f x → map f (set xs i y) ≡ map f xs
map-set_same f [] i x y at same = absurd (none-some x at)
map-set_same {X} {Y} f (z ∷ xs) zero x y at same = ap (λ (w : Y). w ∷ map f xs) (same ∙ ap f (sym (same_Some z x at)))
map-set_same {X} {Y} f (z ∷ xs) (suc i) x y at same = ap (λ (ws : List Y). f z ∷ ws) (map-set_same f xs i x y at same)

all_weaker : {X : Type 0} (P Q : X → Type 0) → ((x : X) → P x → Q x) → (xs : List X) → AllByRecursion P xs → AllByRecursion Q xs
all_weaker P Q h [] all = tt
all_weaker P Q h (x ∷ xs) all = (h x all.0, all_weaker P Q h xs all.1)

among_at : {X : Type 0} (xs : List X) (k : ℕ) (x : X) → slice_get xs k ≡ Some x → Contains xs x
among_at [] k x e = absurd (none-some x e)
among_at {X} (y ∷ xs) zero x e = subst (λ (z : X). Contains (z ∷ xs) x) (sym (same_Some y x e)) (Contains-first x xs)
among_at (y ∷ xs) (suc k) x e = Contains-later y xs x (among_at xs k x e)

-- ---- what contracts see

-- the state at a place, also in a longer list
state_at-longer : (states more : List State) (place : ℕ) → place < length states → state_at (states ++ more) place ≡ state_at states place
state_at-longer [] more place lt = absurd (omega arith)
state_at-longer (s ∷ states) more zero lt = refl
state_at-longer (s ∷ states) more (suc place) lt = state_at-longer states more place (omega arith)

pub closed-longer : (states more : List State) (shuts : List Shut) → AllByRecursion (λ s. s.state < length states) shuts → map (closed_of (states ++ more)) shuts ≡ map (closed_of states) shuts
closed-longer states more [] all = refl
closed-longer states more (s ∷ shuts) all =
    ap₂ (λ (c : Closed) (cs : List Closed). c ∷ cs)
    (ap (λ (u : State). let c : Closed = record { by = s.by; state = u; cost = s.cost } in c) (state_at-longer states more s.state all.0))
    (closed-longer states more shuts all.1)

pub closed-numbered : (first : ℕ) (given : List ℕ) (states : List State) (shuts : List Shut) → map (closed_of states) (map (shut_numbered first given) shuts) ≡ map (closed_numbered first given) (map (closed_of states) shuts)
closed-numbered first given states [] = refl
closed-numbered first given states (s ∷ shuts) =
    ap (λ (cs : List Closed). closed_numbered first given (closed_of states s) ∷ cs) (closed-numbered first given states shuts)

-- ---- a state more

module _ (t : Task) (states : List State) (notes : List Note) (heads : List (Option ℕ)) (shuts : List Shut) (entered : ℕ) (k : IsClosedListKept t states notes heads shuts entered) where
  notes_count : length notes ≡ length states
  notes_count = k.as_many

  -- the state of a note
  pub state_there : (place : ℕ) (n : Note) → slice_get notes place ≡ Some n → (s : State) × (slice_get states place ≡ Some s)
  state_there place n at =
      let lt = slice_get_within notes place n at in
      slice_get_there states place (omega (arith, notes_count))

  -- notes that say the same
  pub kept_alike : (notes' : List Note) (heads' : List (Option ℕ)) → AreAlike notes notes' → IsTable states notes' heads' → IsClosedListKept t states notes' heads' shuts entered
  kept_alike notes' heads' alike table = record {
    as_many = alike.as_many ∙ k.as_many;
    of_task = k.of_task;
    noted = λ i s m is at.
        let x = alike.each i m at in
        let same = x.2 in
        subst (λ (o : Option EstimateValue). IfSome o (λ v. estimated v ≡ hmax t s)) (sym same.value) (k.noted i s x.0 is x.1);
    table = table;
    once = k.once;
    within = k.within;
    least = λ i m at.
        let x = alike.each i m at in
        let same = x.2 in
        subst (λ (o : Option ℕ). IsLeastOf shuts i o) (sym same.least) (k.least i x.0 x.1);
    numbered = k.numbered;
    bounded = k.bounded;
  }

  pub kept_push :
      (notes' : List Note) (heads' : List (Option ℕ)) (s : State) (hash : ℕ) → IsStateOf t s → ((j : ℕ) → slice_get states j ≡ Some s → ⊥)
      → AreAlike (notes ++ note_of hash None ∷ []) notes' → IsTable (states ++ s ∷ []) notes' heads' → IsClosedListKept t (states ++ s ∷ []) notes' heads' shuts entered
  kept_push notes' heads' s hash of absent alike table = record {
    as_many = (let of = table.notes_of in of.as_many);
    of_task = AllByRecursion-push (IsStateOf t) states s k.of_task of;
    noted = λ i u m is at. let x = alike.each i m at in noted_at i u m x.0 is x.2 (get_push notes (note_of hash None) i x.0 x.1);
    table = table;
    once = λ i j u at there.
        ⊎_elim (λ a. ⊎_elim (λ b. k.once i j u a b) (λ b. absurd (absent i (a ∙ ap Some (sym b.1)))) (get_push states s j u there))
        (λ a. ⊎_elim (λ b. absurd (absent j (b ∙ ap Some (sym a.1)))) (λ b. a.0 ∙ sym b.0) (get_push states s j u there))
        (get_push states s i u at);
    within = subst (λ (n : ℕ). AllByRecursion (λ (x : Shut). x.state < n) shuts) (sym (length-append states (s ∷ []))) (all_weaker (λ (x : Shut). x.state < length states) (λ (x : Shut). x.state < length states + 1) (λ x lt. omega arith) shuts k.within);
    least = λ i m at. let x = alike.each i m at in least_at i m x.0 x.2 (get_push notes (note_of hash None) i x.0 x.1);
    numbered = k.numbered;
    bounded = k.bounded;
  }
    where
      noted_at :
          (i : ℕ) (u : State) (m n : Note) → slice_get (states ++ s ∷ []) i ≡ Some u → IsAlike n m → (slice_get notes i ≡ Some n) ⊎ ((i ≡ length notes) × (note_of hash None ≡ n))
          → IsNoted t u m
      noted_at i u m n is same (inl old) =
          let lt = slice_get_within notes i n old in
          subst (λ (o : Option EstimateValue). IfSome o (λ v. estimated v ≡ hmax t u)) (sym same.value)
          (k.noted i u n (get_back states (s ∷ []) i u (omega (arith, notes_count)) is) old)
      noted_at i u m n is same (inr last) =
          subst (λ (o : Option EstimateValue). IfSome o (λ v. estimated v ≡ hmax t u)) (ap (λ (x : Note). x.value) last.1 ∙ sym same.value) tt

      least_at : (i : ℕ) (m n : Note) → IsAlike n m → (slice_get notes i ≡ Some n) ⊎ ((i ≡ length notes) × (note_of hash None ≡ n)) → IsLeastOf shuts i m.least
      least_at i m n same (inl old) = subst (λ (o : Option ℕ). IsLeastOf shuts i o) (sym same.least) (k.least i n old)
      least_at i m n same (inr last) =
          subst (λ (o : Option ℕ). IsLeastOf shuts i o) (ap (λ (x : Note). x.least) last.1 ∙ sym same.least)
          (λ j x there is. let lt = AllByRecursion-slice_get (λ (x : Shut). x.state < length states) shuts j x k.within there in absurd (omega (arith, last.0, notes_count)))

  -- ---- a note changes, but not its hash or its chain

  pub kept_set :
      (shuts' : List Shut) (place : ℕ) (s : State) (n n' : Note) → slice_get states place ≡ Some s → slice_get notes place ≡ Some n → n'.hash ≡ n.hash → n'.before ≡ n.before → IsNoted t s n'
      → AllByRecursion (λ s. s.state < length states) shuts' → ((i : ℕ) (m : Note) → slice_get (set notes place n') i ≡ Some m → IsLeastOf shuts' i m.least)
      → HasNumbered shuts' entered → entered ≤ length shuts' → IsClosedListKept t states (set notes place n') heads shuts' entered
  kept_set shuts' place s n n' is at hash chain noted within least numbered bounded = record {
    as_many = length-set notes place n' ∙ k.as_many;
    of_task = k.of_task;
    noted = λ i u m there in_place. ⊎_elim (λ here. noted_at i u m there here.0 here.1) (λ other. k.noted i u m there other) (get_set notes place n' i m in_place);
    table = table_set states notes heads place n n' k.table at hash chain;
    once = k.once;
    within = within;
    least = least;
    numbered = numbered;
    bounded = bounded;
  }
    where
      noted_at : (i : ℕ) (u : State) (m : Note) → slice_get states i ≡ Some u → i ≡ place → n' ≡ m → IsNoted t u m
      noted_at i u m there e same =
          let its : s ≡ u = same_Some s u (sym is ∙ (ap (slice_get states) (sym e) ∙ there)) in
          subst (λ (x : Note). IsNoted t u x) same (subst (λ (v : State). IsNoted t v n') its noted)

  -- a note has its estimate from now on
  valued : (x : Option ℕ) (o : Option EstimateValue) (v : EstimateValue) → IfSome o (λ w. w ≡ v) → estimated v ≡ x → IfSome o (λ w. estimated w ≡ x)
  valued x None v value is = tt
  valued x (Some w) v value is = ap estimated value ∙ is

  pub kept_valued :
      (place : ℕ) (s : State) (n n' : Note) (v : EstimateValue) → slice_get states place ≡ Some s → slice_get notes place ≡ Some n → n'.hash ≡ n.hash → n'.before ≡ n.before → n'.least ≡ n.least
      → IfSome n'.value (λ w. w ≡ v) → estimated v ≡ hmax t s → IsClosedListKept t states (set notes place n') heads shuts entered
  kept_valued place s n n' v is at hash chain leasts value estimate =
      kept_set shuts place s n n' is at hash chain (valued (hmax t s) n'.value v value estimate) k.within
      (λ i m there.
      ⊎_elim (λ here. subst (λ (x : Note). IsLeastOf shuts i x.least) here.1
      (subst (λ (o : Option ℕ). IsLeastOf shuts i o) (sym leasts) (k.least i n (ap (slice_get notes) here.0 ∙ at))))
      (λ other. k.least i m other) (get_set notes place n' i m there))
      k.numbered k.bounded

  -- ---- an expansion more

  more_of_others : (x : Shut) (i : ℕ) (o : Option ℕ) → x.state ≢ i → IsLeastOf shuts i o → IsLeastOf (shuts ++ x ∷ []) i o
  more_of_others x i None other none = λ j s at is.
      ⊎_elim (λ there. none j s there is) (λ here. other (ap (λ (y : Shut). y.state) here.1 ∙ is)) (get_push shuts x j s at)
  more_of_others x i (Some q) other l = record {
    shut = l.shut;
    there = get_front shuts (x ∷ []) q l.shut l.there;
    of_state = l.of_state;
    least = λ j s at is.
        ⊎_elim (λ there. l.least j s there is) (λ here. absurd (other (ap (λ (y : Shut). y.state) here.1 ∙ is))) (get_push shuts x j s at);
  }

  -- no other expansion of the state costs less
  is_new_least : (x : Shut) (o : Option ℕ) → IsLeastOf shuts x.state o → ((q : ℕ) (s : Shut) → o ≡ Some q → slice_get shuts q ≡ Some s → x.cost < s.cost) → IsCheapest (shuts ++ x ∷ []) x.state (length shuts)
  is_new_least x None none cheaper = record {
    shut = x;
    there = get_last shuts x;
    of_state = refl;
    least = λ j s at is.
        ⊎_elim (λ there. absurd (none j s there is)) (λ here. let same = ap (λ (y : Shut). y.cost) here.1 in omega arith) (get_push shuts x j s at);
  }
  is_new_least x (Some q) l cheaper = record {
    shut = x;
    there = get_last shuts x;
    of_state = refl;
    least = λ j s at is.
        ⊎_elim (λ there. let a = l.least j s there is in let b = cheaper q l.shut refl l.there in omega arith)
        (λ here. let same = ap (λ (y : Shut). y.cost) here.1 in omega arith) (get_push shuts x j s at);
  }

  -- an older one costs no more
  is_old_least : (x : Shut) (q : ℕ) (s : Shut) → IsLeastOf shuts x.state (Some q) → slice_get shuts q ≡ Some s → s.cost ≤ x.cost → IsCheapest (shuts ++ x ∷ []) x.state q
  is_old_least x q s l at cheap =
      let same : l.shut.cost ≡ s.cost = ap (λ (y : Shut). y.cost) (same_Some l.shut s (sym l.there ∙ at)) in
      record {
        shut = l.shut;
        there = get_front shuts (x ∷ []) q l.shut l.there;
        of_state = l.of_state;
        least = λ j y there is.
            ⊎_elim (λ before. l.least j y before is) (λ here. let its = ap (λ (z : Shut). z.cost) here.1 in omega arith) (get_push shuts x j y there);
      }

  numbered_push : (x : Shut) → HasNumbered (shuts ++ x ∷ []) entered
  numbered_push x = λ j s lt at.
      let bound = k.bounded in
      ⊎_elim (λ there. k.numbered j s lt there) (λ here. absurd (omega (arith, here.0))) (get_push shuts x j s at)

  within_push : (x : Shut) → x.state < length notes → AllByRecursion (λ s. s.state < length states) (shuts ++ x ∷ [])
  within_push x lt = AllByRecursion-push (λ (s : Shut). s.state < length states) shuts x k.within (omega (arith, notes_count))

  bounded_push : (x : Shut) → entered ≤ length (shuts ++ x ∷ [])
  bounded_push x = let a = k.bounded in omega (arith, length-append shuts (x ∷ []))

  -- the new one is the cheapest of its state
  pub kept_cheaper :
      (x : Shut) (n n' : Note) → slice_get notes x.state ≡ Some n → n'.hash ≡ n.hash → n'.before ≡ n.before → n'.value ≡ n.value → n'.least ≡ Some (length shuts)
      → ((q : ℕ) (s : Shut) → n.least ≡ Some q → slice_get shuts q ≡ Some s → x.cost < s.cost) → IsClosedListKept t states (set notes x.state n') heads (shuts ++ x ∷ []) entered
  kept_cheaper x n n' at hash chain values leasts cheaper =
      let its = state_there x.state n at in
      kept_set (shuts ++ x ∷ []) x.state its.0 n n' its.1 at hash chain
      (subst (λ (o : Option EstimateValue). IfSome o (λ w. estimated w ≡ hmax t its.0)) (sym values) (k.noted x.state its.0 n its.1 at)) (within_push x (slice_get_within notes x.state n at))
      (λ i m there.
      ⊎_elim (λ here. subst (λ (y : Note). IsLeastOf (shuts ++ x ∷ []) i y.least) here.1
      (subst (λ (o : Option ℕ). IsLeastOf (shuts ++ x ∷ []) i o) (sym leasts)
      (subst (λ (j : ℕ). IsCheapest (shuts ++ x ∷ []) j (length shuts)) (sym here.0) (is_new_least x n.least (k.least x.state n at) cheaper))))
      (λ other. by_place i m there other (same_or_not x.state i)) (get_set notes x.state n' i m there))
      (numbered_push x) (bounded_push x)
    where
      by_place : (i : ℕ) (m : Note) → slice_get (set notes x.state n') i ≡ Some m → slice_get notes i ≡ Some m → (x.state ≡ i) ⊎ (x.state ≢ i) → IsLeastOf (shuts ++ x ∷ []) i m.least
      by_place i m there other (inl e) =
          let here : slice_get (set notes x.state n') i ≡ Some n' = subst (λ (j : ℕ). slice_get (set notes x.state n') j ≡ Some n') e (get_set_same notes x.state n' (slice_get_within notes x.state n at)) in
          let is : n' ≡ m = same_Some n' m (sym here ∙ there) in
          subst (λ (y : Note). IsLeastOf (shuts ++ x ∷ []) i y.least) is
          (subst (λ (o : Option ℕ). IsLeastOf (shuts ++ x ∷ []) i o) (sym leasts)
          (subst (λ (j : ℕ). IsCheapest (shuts ++ x ∷ []) j (length shuts)) e (is_new_least x n.least (k.least x.state n at) cheaper)))
      by_place i m there other (inr ne) = more_of_others x i m.least ne (k.least i m other)

  -- an older one is
  pub kept_dearer :
      (x : Shut) (n : Note) (q : ℕ) (s : Shut) → slice_get notes x.state ≡ Some n → n.least ≡ Some q → slice_get shuts q ≡ Some s → s.cost ≤ x.cost
      → IsClosedListKept t states notes heads (shuts ++ x ∷ []) entered
  kept_dearer x n q s at leasts there cheap = record {
    as_many = k.as_many;
    of_task = k.of_task;
    noted = k.noted;
    table = k.table;
    once = k.once;
    within = within_push x (slice_get_within notes x.state n at);
    least = λ i m here. by i m here (cases_lt x.state i) (cases_lt i x.state);
    numbered = numbered_push x;
    bounded = bounded_push x;
  }
    where
      by : (i : ℕ) (m : Note) → slice_get notes i ≡ Some m → (x.state < i) ⊎ (i ≤ x.state) → (i < x.state) ⊎ (x.state ≤ i) → IsLeastOf (shuts ++ x ∷ []) i m.least
      by i m here (inl lt) c = more_of_others x i m.least (λ e. omega arith) (k.least i m here)
      by i m here (inr le) (inl lt) = more_of_others x i m.least (λ e. omega arith) (k.least i m here)
      by i m here (inr le) (inr le') =
          let e : x.state ≡ i = omega arith in
          let is : n ≡ m = same_Some n m (sym at ∙ (ap (slice_get notes) e ∙ here)) in
          subst (λ (y : Note). IsLeastOf (shuts ++ x ∷ []) i y.least) is
          (subst (λ (o : Option ℕ). IsLeastOf (shuts ++ x ∷ []) i o) (sym leasts)
          (subst (λ (j : ℕ). IsCheapest (shuts ++ x ∷ []) j q) e (is_old_least x q s (subst (IsLeastOf shuts x.state) leasts (k.least x.state n at)) there cheap)))

  -- ---- names

  get-numbered : (first : ℕ) (given : List ℕ) (xs : List Shut) (j : ℕ) (s : Shut) → slice_get (map (shut_numbered first given) xs) j ≡ Some s → (x : Shut) × (slice_get xs j ≡ Some x) × (shut_numbered first given x ≡ s)
  get-numbered first given [] j s e = absurd (none-some s e)
  get-numbered first given (x ∷ xs) zero s e = (x, refl, same_Some (shut_numbered first given x) s e)
  get-numbered first given (x ∷ xs) (suc j) s e = get-numbered first given xs j s e

  least_numbered : (first : ℕ) (given : List ℕ) (i : ℕ) (o : Option ℕ) → IsLeastOf shuts i o → IsLeastOf (map (shut_numbered first given) shuts) i o
  least_numbered first given i None none = λ j s at is.
      let x = get-numbered first given shuts j s at in none j x.0 x.1 (ap (λ (y : Shut). y.state) x.2 ∙ is)
  least_numbered first given i (Some q) l = record {
    shut = shut_numbered first given l.shut;
    there = slice_get-map (shut_numbered first given) shuts q ∙ ap (option_map (shut_numbered first given)) l.there;
    of_state = l.of_state;
    least = λ j s at is.
        let x = get-numbered first given shuts j s at in
        let a = l.least j x.0 x.1 (ap (λ (y : Shut). y.state) x.2 ∙ is) in
        let b = ap (λ (y : Shut). y.cost) x.2 in
        omega arith;
  }

  within-numbered : (first : ℕ) (given : List ℕ) (xs : List Shut) (n : ℕ) → AllByRecursion (λ s. s.state < n) xs → AllByRecursion (λ s. s.state < n) (map (shut_numbered first given) xs)
  within-numbered first given [] n all = tt
  within-numbered first given (x ∷ xs) n all = (all.0, within-numbered first given xs n all.1)

  pub kept_numbered :
      (first : ℕ) (given : List ℕ) (shuts' : List Shut) (entered' : ℕ) → shuts' ≡ map (shut_numbered first given) shuts → HasNumbered shuts' entered' → entered' ≤ length shuts'
      → IsClosedListKept t states notes heads shuts' entered'
  kept_numbered first given shuts' entered' is numbered bounded = record {
    as_many = k.as_many;
    of_task = k.of_task;
    noted = k.noted;
    table = k.table;
    once = k.once;
    within = subst (AllByRecursion (λ (s : Shut). s.state < length states)) (sym is) (within-numbered first given shuts (length states) k.within);
    least = λ i n at. subst (λ (xs : List Shut). IsLeastOf xs i n.least) (sym is) (least_numbered first given i n.least (k.least i n at));
    numbered = numbered;
    bounded = bounded;
  }

  -- ---- look-ups

  state_at_place : (place : ℕ) (s : State) → slice_get states place ≡ Some s → state_at states place ≡ s
  state_at_place place s at = get_or_from_slice_get states place s nothing at

  -- the cheapest expansion of a state names it
  pub named_by :
      (place : ℕ) (n : Note) (s : State) (q : ℕ) (x : Shut) (cost : ℕ) → slice_get notes place ≡ Some n → slice_get states place ≡ Some s
      → n.least ≡ Some q → slice_get shuts q ≡ Some x → x.cost ≤ cost → IsNamedBy (map (closed_of states) shuts) s cost x.by
  named_by place n s q x cost at is leasts there cheap =
      let l : IsCheapest shuts place q = subst (IsLeastOf shuts place) leasts (k.least place n at) in
      let same : l.shut ≡ x = same_Some l.shut x (sym l.there ∙ there) in
      let of : x.state ≡ place = ap (λ (y : Shut). y.state) (sym same) ∙ l.of_state in (
        closed_of states x,
        record {
          among = Contains-map (closed_of states) shuts x (among_at shuts q x there);
          same_state = ap (state_at states) of ∙ state_at_place place s is;
          no_dearer = cheap;
        },
        refl,
      )

  -- an expansion of a state is one that its note knows of
  from_closed :
      (place : ℕ) (s : State) (cost : ℕ) (c : Closed) → slice_get states place ≡ Some s → IsClosedAt (map (closed_of states) shuts) s cost c
      → (j : ℕ) × (x : Shut) × (slice_get shuts j ≡ Some x) × (x.state ≡ place) × (x.cost ≤ cost)
  from_closed place s cost c is closed =
      let from = IsFrom-from_map (closed_of states) shuts c closed.among in
      let at = place_of shuts from.source from.among in
      let lt : from.source.state < length states = AllByRecursion-slice_get (λ (y : Shut). y.state < length states) shuts at.0 from.source k.within at.1 in
      let its : slice_get states from.source.state ≡ Some (state_at states from.source.state) = there_at states from.source.state lt in
      let same : state_at states from.source.state ≡ s = ap (λ (y : Closed). y.state) from.is ∙ closed.same_state in
      let cheap = ap (λ (y : Closed). y.cost) from.is in
      (at.0, from.source, at.1, k.once from.source.state place s (its ∙ ap Some same) is, (let le = closed.no_dearer in omega arith))
    where
      there_at : (states : List State) (i : ℕ) → i < length states → slice_get states i ≡ Some (state_at states i)
      there_at [] i lt = absurd (omega arith)
      there_at (u ∷ states) zero lt = refl
      there_at (u ∷ states) (suc i) lt = there_at states i (omega arith)

  pub none_closed :
      (place : ℕ) (n : Note) (s : State) (cost : ℕ) → slice_get notes place ≡ Some n → slice_get states place ≡ Some s → n.least ≡ None
      → IsDearer (map (closed_of states) shuts) s cost
  none_closed place n s cost at is none c closed =
      let x = from_closed place s cost c is closed in
      let absent : IsLeastOf shuts place None = subst (IsLeastOf shuts place) none (k.least place n at) in
      absent x.0 x.1 x.2 x.3

  pub all_dearer :
      (place : ℕ) (n : Note) (s : State) (q : ℕ) (y : Shut) (cost : ℕ) → slice_get notes place ≡ Some n → slice_get states place ≡ Some s
      → n.least ≡ Some q → slice_get shuts q ≡ Some y → cost < y.cost → IsDearer (map (closed_of states) shuts) s cost
  all_dearer place n s q y cost at is leasts there dear c closed =
      let x = from_closed place s cost c is closed in
      let l : IsCheapest shuts place q = subst (IsLeastOf shuts place) leasts (k.least place n at) in
      let same : l.shut.cost ≡ y.cost = ap (λ (z : Shut). z.cost) (same_Some l.shut y (sym l.there ∙ there)) in
      let le = l.least x.0 x.1 x.2 x.3 in
      let cheap = x.4 in
      absurd (omega arith)

  -- ---- the answers of look-ups

  abbrev closed_now : List Closed
  closed_now = map (closed_of states) shuts

  -- a state's note reports what names an expansion that costs no more
  pub told_by :
      (place : ℕ) (n : Note) (cost : ℕ) → slice_get notes place ≡ Some n
      → IfSome (no_dearer shuts n.least cost) (λ by. IfSome (slice_get states place) (λ s. IsNamedBy closed_now s cost by))
  told_by place n cost at =
      elim n.least as (λ o. n.least ≡ o → IfSome (no_dearer shuts o cost) (λ by. IfSome (slice_get states place) (λ s. IsNamedBy closed_now s cost by))) [
        | None ↦ λ _. tt
        | Some q ↦ λ leasts. at_slot q leasts (slice_get shuts q) refl
      ] refl
    where
      named : (q : ℕ) (x : Shut) → n.least ≡ Some q → slice_get shuts q ≡ Some x → x.cost ≤ cost → IfSome (slice_get states place) (λ s. IsNamedBy closed_now s cost x.by)
      named q x leasts there cheap =
          let is = state_there place n at in
          subst (λ (o : Option State). IfSome o (λ s. IsNamedBy closed_now s cost x.by)) (sym is.1)
          (named_by place n is.0 q x cost at is.1 leasts there cheap)

      by_test : (q : ℕ) (x : Shut) → n.least ≡ Some q → slice_get shuts q ≡ Some x → (b : Bool) → nat_le x.cost cost ≡ b → IfSome (cond b (Some x.by) None) (λ by. IfSome (slice_get states place) (λ s. IsNamedBy closed_now s cost by))
      by_test q x leasts there true e = named q x leasts there (leb-true x.cost cost e)
      by_test q x leasts there false e = tt

      at_slot :
          (q : ℕ) → n.least ≡ Some q → (o : Option Shut) → slice_get shuts q ≡ o
          → IfSome (no_dearer_than o cost) (λ by. IfSome (slice_get states place) (λ s. IsNamedBy closed_now s cost by))
      at_slot q leasts None there = tt
      at_slot q leasts (Some x) there = by_test q x leasts there (nat_le x.cost cost) refl

  -- and where it reports of none, there is none
  pub told_of_none :
      (place : ℕ) (n : Note) (cost : ℕ) → slice_get notes place ≡ Some n
      → IfNone (no_dearer shuts n.least cost) (IfSome (slice_get states place) (λ s. IsDearer closed_now s cost))
  told_of_none place n cost at =
      elim n.least as (λ o. n.least ≡ o → IfNone (no_dearer shuts o cost) (IfSome (slice_get states place) (λ s. IsDearer closed_now s cost))) [
        | None ↦ λ none. let is = state_there place n at in at_state is.0 is.1 (none_closed place n is.0 cost at is.1 none)
        | Some q ↦ λ leasts. at_slot q leasts (slice_get shuts q) refl
      ] refl
    where
      at_state : (u : State) → slice_get states place ≡ Some u → IsDearer closed_now u cost → IfSome (slice_get states place) (λ s. IsDearer closed_now s cost)
      at_state u is d = subst (λ (o : Option State). IfSome o (λ s. IsDearer closed_now s cost)) (sym is) d

      by_test : (q : ℕ) (x : Shut) → n.least ≡ Some q → slice_get shuts q ≡ Some x → (b : Bool) → nat_le x.cost cost ≡ b → IfNone (cond b (Some x.by) None) (IfSome (slice_get states place) (λ s. IsDearer closed_now s cost))
      by_test q x leasts there true e = tt
      by_test q x leasts there false e =
          let is = state_there place n at in at_state is.0 is.1 (all_dearer place n is.0 q x cost at is.1 leasts there (leb-false x.cost cost e))

      at_slot : (q : ℕ) → n.least ≡ Some q → (o : Option Shut) → slice_get shuts q ≡ o → IfNone (no_dearer_than o cost) (IfSome (slice_get states place) (λ s. IsDearer closed_now s cost))
      at_slot q leasts None there =
          let l : IsCheapest shuts place q = subst (IsLeastOf shuts place) leasts (k.least place n at) in
          absurd (none-some l.shut (sym there ∙ l.there))
      at_slot q leasts (Some x) there = by_test q x leasts there (nat_le x.cost cost) refl

  -- ---- what an expansion more does to its state's note

  cheaper_all : (o : Option ℕ) (cost : ℕ) → is_cheaper shuts o cost ≡ true → (q : ℕ) (s : Shut) → o ≡ Some q → slice_get shuts q ≡ Some s → cost < s.cost
  cheaper_all None cost test q s e at = absurd (none-some q e)
  cheaper_all (Some p) cost test q s e at =
      let same : slice_get shuts p ≡ Some s = ap (slice_get shuts) (same_Some p q e) ∙ at in
      ltb-true cost s.cost (sym (ap (λ (o : Option Shut). is_cheaper_than o cost) same) ∙ test)

  pub closed_cheaper :
      (place : ℕ) (x : Shut) (n n' : Note) → x.state ≡ place → slice_get notes place ≡ Some n → n'.hash ≡ n.hash → n'.before ≡ n.before → n'.value ≡ n.value → n'.least ≡ Some (length shuts)
      → is_cheaper shuts n.least x.cost ≡ true → IsClosedListKept t states (set notes place n') heads (shuts ++ x ∷ []) entered
  closed_cheaper place x n n' of at same chain values leasts test =
      subst (λ (i : ℕ). IsClosedListKept t states (set notes i n') heads (shuts ++ x ∷ []) entered) of
      (kept_cheaper x n n' (ap (slice_get notes) of ∙ at) same chain values leasts (cheaper_all n.least x.cost test))

  pub closed_dearer :
      (place : ℕ) (x : Shut) (n : Note) → x.state ≡ place → slice_get notes place ≡ Some n → is_cheaper shuts n.least x.cost ≡ false → IsClosedListKept t states notes heads (shuts ++ x ∷ []) entered
  closed_dearer place x n of at test =
      elim n.least as (λ o. n.least ≡ o → is_cheaper shuts o x.cost ≡ false → IsClosedListKept t states notes heads (shuts ++ x ∷ []) entered) [
        | None ↦ λ _ e. absurd (cc)
        | Some q ↦ λ leasts e. at_slot q leasts (slice_get shuts q) refl e
      ] refl test
    where
      at_slot : (q : ℕ) → n.least ≡ Some q → (o : Option Shut) → slice_get shuts q ≡ o → is_cheaper_than o x.cost ≡ false → IsClosedListKept t states notes heads (shuts ++ x ∷ []) entered
      at_slot q leasts None there e = absurd (cc)
      at_slot q leasts (Some s) there e = kept_dearer x n q s (ap (slice_get notes) of ∙ at) leasts there (ltb-false x.cost s.cost e)

  -- ---- estimates

  pub value_new : (place : ℕ) (s : State) (v : EstimateValue) → slice_get states place ≡ Some s → estimated v ≡ hmax t s → IfSome (slice_get states place) (λ s. estimated v ≡ hmax t s)
  value_new place s v at is = subst (λ (o : Option State). IfSome o (λ s. estimated v ≡ hmax t s)) (sym at) is

  pub value_known : (place : ℕ) (n : Note) (v : EstimateValue) → slice_get notes place ≡ Some n → n.value ≡ Some v → IfSome (slice_get states place) (λ s. estimated v ≡ hmax t s)
  value_known place n v at is =
      let its = state_there place n at in
      let noted : IfSome n.value (λ w. estimated w ≡ hmax t its.0) = k.noted place its.0 n its.1 at in
      value_new place its.0 v its.1 (subst (λ (o : Option EstimateValue). IfSome o (λ w. estimated w ≡ hmax t its.0)) is noted)

  pub state_of_task : (place : ℕ) (s : State) → slice_get states place ≡ Some s → IsStateOf t s
  state_of_task place s at = AllByRecursion-slice_get (IsStateOf t) states place s k.of_task at

-- ---- naming expansions from a place on

-- the expansions before a place are named again, and the others are as they were
pub record IsNumbering (first : ℕ) (given : List ℕ) (before shuts : List Shut) (place : ℕ) : Type 0 where
  pub done : (j : ℕ) (s : Shut) → j < place → slice_get before j ≡ Some s → slice_get shuts j ≡ Some (shut_numbered first given s)
  pub rest : (j : ℕ) (s : Shut) → place ≤ j → slice_get before j ≡ Some s → slice_get shuts j ≡ Some s
  pub as_many : length shuts ≡ length before

entered_same : (first : ℕ) (given : List ℕ) (s : Shut) → IsEntered s.by → shut_numbered first given s ≡ s
entered_same first given s e = ap (λ (b : By). let x : Shut = record { by = b; state = s.state; cost = s.cost } in x) (by_same s.by e)
  where
    by_same : (b : By) → IsEntered b → numbered first given b ≡ b
    by_same (Entry n) e = refl
    by_same (Here i) e = absurd e

pub numbering_starts : (first : ℕ) (given : List ℕ) (shuts : List Shut) (from : ℕ) → HasNumbered shuts from → IsNumbering first given shuts shuts from
numbering_starts first given shuts from entered = record {
  done = λ j s lt at. at ∙ ap Some (sym (entered_same first given s (entered j s lt at)));
  rest = λ j s le at. at;
  as_many = refl;
}

pub numbering_goes_on :
    (first : ℕ) (given : List ℕ) (before shuts : List Shut) (place : ℕ) (x y : Shut) → IsNumbering first given before shuts place → place < length shuts
    → slice_get shuts place ≡ Some x → y ≡ shut_numbered first given x → IsNumbering first given before (set shuts place y) (place + 1)
numbering_goes_on first given before shuts place x y n lt at is = record {
  done = λ j s less there. by j s less there (cases_lt j place);
  rest = λ j s le there. get_set_other shuts place y j (λ e. omega arith) ∙ n.rest j s (omega arith) there;
  as_many = length-set shuts place y ∙ n.as_many;
}
  where
    by : (j : ℕ) (s : Shut) → j < place + 1 → slice_get before j ≡ Some s → (j < place) ⊎ (place ≤ j) → slice_get (set shuts place y) j ≡ Some (shut_numbered first given s)
    by j s less there (inl under) = get_set_other shuts place y j (λ e. omega arith) ∙ n.done j s under there
    by j s less there (inr le) =
        let same : place ≡ j = omega arith in
        let its : slice_get shuts place ≡ Some s = n.rest place s (omega arith) (ap (slice_get before) same ∙ there) in
        let equal : x ≡ s = same_Some x s (sym at ∙ its) in
        subst (λ (i : ℕ). slice_get (set shuts place y) i ≡ Some (shut_numbered first given s)) same
        (get_set_same shuts place y lt ∙ ap Some (is ∙ ap (shut_numbered first given) equal))

pub numbering_ends :
    (first : ℕ) (given : List ℕ) (before shuts : List Shut) (place : ℕ) → IsNumbering first given before shuts place → length before ≤ place → shuts ≡ map (shut_numbered first given) before
numbering_ends first given before shuts place n le =
    sym (same_list (map (shut_numbered first given) before) shuts (length-map before (shut_numbered first given) ∙ sym n.as_many)
    (λ j s at.
    let from = numbered_from before j s at in
    let lt = slice_get_within before j from.0 from.1 in
    n.done j from.0 (omega arith) from.1 ∙ ap Some from.2))
  where
    numbered_from : (xs : List Shut) (j : ℕ) (s : Shut) → slice_get (map (shut_numbered first given) xs) j ≡ Some s → (x : Shut) × (slice_get xs j ≡ Some x) × (shut_numbered first given x ≡ s)
    numbered_from [] j s e = absurd (none-some s e)
    numbered_from (x ∷ xs) zero s e = (x, refl, same_Some (shut_numbered first given x) s e)
    numbered_from (x ∷ xs) (suc j) s e = numbered_from xs j s e

-- one more is an entry
pub entered_more : (shuts : List Shut) (place n : ℕ) (x : Shut) → HasNumbered shuts place → slice_get shuts place ≡ Some x → x.by ≡ Entry n → HasNumbered shuts (place + 1)
entered_more shuts place n x entered at is = λ j s lt there. by j s lt there (cases_lt j place)
  where
    by : (j : ℕ) (s : Shut) → j < place + 1 → slice_get shuts j ≡ Some s → (j < place) ⊎ (place ≤ j) → IsEntered s.by
    by j s lt there (inl under) = entered j s under there
    by j s lt there (inr le) =
        let same : place ≡ j = omega arith in
        let equal : x ≡ s = same_Some x s (sym at ∙ (ap (slice_get shuts) same ∙ there)) in
        subst IsEntered (sym is ∙ ap (λ (y : Shut). y.by) equal) tt

-- entries stay so when expansions are named again
pub entered_numbered : (first : ℕ) (given : List ℕ) (shuts : List Shut) (place : ℕ) → HasNumbered shuts place → HasNumbered (map (shut_numbered first given) shuts) place
entered_numbered first given shuts place entered = λ j s lt there. by j s lt (slice_get shuts j) refl (sym (slice_get-map (shut_numbered first given) shuts j) ∙ there)
  where
    stays : (b : By) → IsEntered b → IsEntered (numbered first given b)
    stays (Entry n) e = tt
    stays (Here i) e = absurd e

    by : (j : ℕ) (s : Shut) → j < place → (o : Option Shut) → slice_get shuts j ≡ o → option_map (shut_numbered first given) o ≡ Some s → IsEntered s.by
    by j s lt None at e = absurd (none-some s e)
    by j s lt (Some x) at e = subst (λ (y : Shut). IsEntered y.by) (same_Some (shut_numbered first given x) s e) (stays x.by (entered j x lt at))

-- ---- parts that are read and written

-- a slice that is written back
pub written_back : {X : Type 0} (len : ℕ) (new items : List X) → length new ≡ len → length items ≡ len → take len (new ++ drop (length new) items) ≡ new
written_back len new items e f =
    ap (take len) (ap (λ ys. new ++ ys) (drop_of_length-le items (omega arith)) ∙ append-nil new) ∙ take_all len new (omega arith)

-- a note that is read
pub note_there : (notes : List Note) (count place : ℕ) (n : Note) → length notes ≡ count → place < count → n ≡ get_or notes place n → slice_get notes place ≡ Some n
note_there notes count place n many within read = slice_get_read notes (length notes) place n refl (omega arith) read
