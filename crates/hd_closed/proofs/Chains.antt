-- How notes are chained, and how the note of a state is found.
use Rattle.std.proofs.Common.{◌≡◌, ◌≢◌, ◌⊎◌, inl, inr, ⊎_elim, ℕ, zero, suc, ◌+◌, ◌<◌, ◌≤◌, ◌==◌, Bool, true, false, List, [], ◌∷◌, ◌++◌, Option, Some, None, length, set, get_or, slice_get, refl, sym, ap, ◌∙◌, subst, arith, length-append, length-set, get_or-set_same, get_or-set_other}
use Rattle.std.specs.Prelude.{Result, Ok, Err, OnErr}
use Rattle.std.proofs.lemmas.Bool.{cases_lt}
use Rattle.std.proofs.lemmas.Option.{none-some, same_Some, slice_get_within, slice_get_read, get_or_from_slice_get}
use Rattle.hd_hmax.proofs.Cheapest.{slice_get_there}
use Rattle.hd_task.specs.declared.state.State.{State}
use Rattle.hd_zobrist.specs.Hash.{state_hash}
use Rattle.hd_closed.specs.declared.notes.Note.{Note}
use Rattle.hd_closed.specs.Notes.{IsAlike, AreAlike, bucket_at, bucket_head, IsInBucket, IsLast, AreNotesOf, AreChained, IsTable}

-- ---- places of longer lists

pub get_front : {X : Type 0} (xs ys : List X) (i : ℕ) (x : X) → slice_get xs i ≡ Some x → slice_get (xs ++ ys) i ≡ Some x
get_front [] ys i x e = absurd (none-some x e)
get_front (y ∷ xs) ys zero x e = e
get_front (y ∷ xs) ys (suc i) x e = get_front xs ys i x e

pub get_back : {X : Type 0} (xs ys : List X) (i : ℕ) (x : X) → i < length xs → slice_get (xs ++ ys) i ≡ Some x → slice_get xs i ≡ Some x
get_back [] ys i x lt e = absurd (omega arith)
get_back (y ∷ xs) ys zero x lt e = e
get_back (y ∷ xs) ys (suc i) x lt e = get_back xs ys i x (omega arith) e

pub get_last : {X : Type 0} (xs : List X) (y : X) → slice_get (xs ++ y ∷ []) (length xs) ≡ Some y
get_last [] y = refl
get_last (x ∷ xs) y = get_last xs y

-- what stands in a list with one more: it stood there before, or is the last one
pub get_push : {X : Type 0} (xs : List X) (y : X) (i : ℕ) (x : X) → slice_get (xs ++ y ∷ []) i ≡ Some x → (slice_get xs i ≡ Some x) ⊎ ((i ≡ length xs) × (y ≡ x))
get_push [] y zero x e = inr (refl, same_Some y x e)
get_push [] y (suc i) x e = absurd (none-some x e)
get_push (z ∷ xs) y zero x e = inl e
get_push (z ∷ xs) y (suc i) x e = ⊎_elim (λ k. inl k) (λ k. inr (ap suc k.0, k.1)) (get_push xs y i x e)

-- ---- lists with one place changed

pub get_set_same : {X : Type 0} (xs : List X) (i : ℕ) (y : X) → i < length xs → slice_get (set xs i y) i ≡ Some y
get_set_same [] i y lt = absurd (omega arith)
get_set_same (x ∷ xs) zero y lt = refl
get_set_same (x ∷ xs) (suc i) y lt = get_set_same xs i y (omega arith)

pub get_set_other : {X : Type 0} (xs : List X) (i : ℕ) (y : X) (k : ℕ) → i ≢ k → slice_get (set xs i y) k ≡ slice_get xs k
get_set_other [] i y k ne = refl
get_set_other (x ∷ xs) zero y zero ne = absurd (ne refl)
get_set_other (x ∷ xs) zero y (suc k) ne = refl
get_set_other (x ∷ xs) (suc i) y zero ne = refl
get_set_other (x ∷ xs) (suc i) y (suc k) ne = get_set_other xs i y k (λ e. ne (ap suc e))

-- what stands in a list with one place changed
pub get_set : {X : Type 0} (xs : List X) (i : ℕ) (y : X) (k : ℕ) (x : X) → slice_get (set xs i y) k ≡ Some x → ((k ≡ i) × (y ≡ x)) ⊎ (slice_get xs k ≡ Some x)
get_set [] i y k x e = inr e
get_set (z ∷ xs) zero y zero x e = inl (refl, same_Some y x e)
get_set (z ∷ xs) zero y (suc k) x e = inr e
get_set (z ∷ xs) (suc i) y zero x e = inr e
get_set (z ∷ xs) (suc i) y (suc k) x e = ⊎_elim (λ here. inl (ap suc here.0, here.1)) (λ there. inr there) (get_set xs i y k x e)

pub same_or_not : (i j : ℕ) → (i ≡ j) ⊎ (i ≢ j)
same_or_not i j = elim (cases_lt i j) [
  | inl lt ↦ inr (λ e. omega arith)
  | inr le ↦ elim (cases_lt j i) [
    | inl lt ↦ inr (λ e. omega arith)
    | inr le' ↦ inl (omega arith)
  ]
]

-- ---- buckets

-- there are some
pub some_buckets : (heads : List (Option ℕ)) (none : Bool) → none ≡ false → none ≡ (length heads == 0) → 0 < length heads
some_buckets [] none some is = let e : false ≡ true = sym some ∙ is in absurd (cc)
some_buckets (o ∷ heads) none some is = omega arith

-- a bucket that is read
pub head_read : (heads : List (Option ℕ)) (b : ℕ) (o : Option ℕ) → b < length heads → o ≡ get_or heads b o → bucket_head heads b ≡ o
head_read heads b o lt read = get_or_from_slice_get heads b o None (slice_get_read heads (length heads) b o refl lt read)

-- an empty bucket more
pub empty_push : (heads : List (Option ℕ)) → ((b : ℕ) → bucket_head heads b ≡ None) → (b : ℕ) → bucket_head (heads ++ None ∷ []) b ≡ None
empty_push [] empty zero = refl
empty_push [] empty (suc b) = refl
empty_push (o ∷ heads) empty zero = empty zero
empty_push (o ∷ heads) empty (suc b) = empty_push heads (λ i. empty (suc i)) b

-- what holds holds if there is an error
pub on_err : {T E P : Type 0} (r : Result T E) → P → OnErr r P
on_err (Ok x) p = tt
on_err (Err e) p = p

-- ---- notes that say the same

pub alike_same : (notes : List Note) → AreAlike notes notes
alike_same notes = record { as_many = refl; each = λ k n at. (n, at, record { hash = refl; value = refl; least = refl }) }

pub alike_set :
    (old notes : List Note) (place : ℕ) (n n' : Note) → AreAlike old notes → slice_get notes place ≡ Some n → IsAlike n n' → AreAlike old (set notes place n')
alike_set old notes place n n' a at same = record {
  as_many = length-set notes place n' ∙ a.as_many;
  each = λ k m there. ⊎_elim (λ here. at_place k m here.0 here.1) (λ other. a.each k m other) (get_set notes place n' k m there);
}
  where
    at_place : (k : ℕ) (m : Note) → k ≡ place → n' ≡ m → (x : Note) × (slice_get old k ≡ Some x) × IsAlike x m
    at_place k m e is =
        let x = a.each k n (ap (slice_get notes) e ∙ at) in
        let b = x.2 in (
          x.0,
          x.1,
          subst (IsAlike x.0) is (record { hash = same.hash ∙ b.hash; value = same.value ∙ b.value; least = same.least ∙ b.least }),
        )

pub alike_push : (notes notes' : List Note) (n n' : Note) → notes' ≡ notes ++ n' ∷ [] → IsAlike n n' → AreAlike (notes ++ n ∷ []) notes'
alike_push notes notes' n n' is same = record {
  as_many = ap length is ∙ (length-append notes (n' ∷ []) ∙ sym (length-append notes (n ∷ [])));
  each = λ k m there.
      ⊎_elim (λ old. (m, get_front notes (n ∷ []) k m old, record { hash = refl; value = refl; least = refl }))
      (λ last. (n, ap (slice_get (notes ++ n ∷ [])) last.0 ∙ get_last notes n, subst (IsAlike n) last.1 same))
      (get_push notes n' k m (subst (λ (xs : List Note). slice_get xs k ≡ Some m) is there));
}

pub alike_then : (notes between notes' : List Note) (n : Note) → AreAlike notes between → AreAlike (between ++ n ∷ []) notes' → AreAlike (notes ++ n ∷ []) notes'
alike_then notes between notes' n a b = record {
  as_many = b.as_many ∙ (length-append between (n ∷ []) ∙ (ap (λ (i : ℕ). i + 1) a.as_many ∙ sym (length-append notes (n ∷ []))));
  each = λ k m at. let x = b.each k m at in at_place k m x.0 x.2 (get_push between n k x.0 x.1);
}
  where
    at_place :
        (k : ℕ) (m x : Note) → IsAlike x m → (slice_get between k ≡ Some x) ⊎ ((k ≡ length between) × (n ≡ x)) → (y : Note) × (slice_get (notes ++ n ∷ []) k ≡ Some y) × IsAlike y m
    at_place k m x same (inl old) =
        let y = a.each k x old in
        let s = y.2 in (
          y.0,
          get_front notes (n ∷ []) k y.0 y.1,
          record { hash = same.hash ∙ s.hash; value = same.value ∙ s.value; least = same.least ∙ s.least },
        )
    at_place k m x same (inr last) = (
      n,
      ap (slice_get (notes ++ n ∷ [])) (last.0 ∙ a.as_many) ∙ get_last notes n,
      subst (λ (z : Note). IsAlike z m) (sym last.1) same,
    )

pub notes_of_alike : (states : List State) (notes notes' : List Note) → AreAlike notes notes' → AreNotesOf states notes → AreNotesOf states notes'
notes_of_alike states notes notes' a of = record {
  as_many = a.as_many ∙ of.as_many;
  hashes = λ k n s at there. let x = a.each k n at in let b = x.2 in b.hash ∙ of.hashes k x.0 s x.1 there;
}

-- ---- the last state of a bucket

in_longer : (states more : List State) (buckets b k : ℕ) → IsInBucket states buckets b k → IsInBucket (states ++ more) buckets b k
in_longer states more buckets b k h = (h.0, get_front states more k h.0 h.1, h.2)

in_shorter : (states more : List State) (buckets b k : ℕ) → k < length states → IsInBucket (states ++ more) buckets b k → IsInBucket states buckets b k
in_shorter states more buckets b k lt h = (h.0, get_back states more k h.0 lt h.1, h.2)

last_longer : (states more : List State) (buckets b upto : ℕ) (o : Option ℕ) → upto ≤ length states → IsLast states buckets b upto o → IsLast (states ++ more) buckets b upto o
last_longer states more buckets b upto None le last = λ k lt h. last k lt (in_shorter states more buckets b k (omega arith) h)
last_longer states more buckets b upto (Some q) le last =
    (last.0, in_longer states more buckets b q last.1, λ k above lt h. last.2 k above lt (in_shorter states more buckets b k (omega arith) h))

-- one state further, of another bucket
last_next : (states : List State) (buckets b upto : ℕ) (o : Option ℕ) (s : State) → slice_get states upto ≡ Some s → bucket_at (state_hash s) buckets ≢ b → IsLast states buckets b upto o → IsLast states buckets b (upto + 1) o
last_next states buckets b upto None s at other last = λ k lt h. by k lt h (cases_lt k upto)
  where
    by : (k : ℕ) → k < upto + 1 → IsInBucket states buckets b k → (k < upto) ⊎ (upto ≤ k) → ⊥
    by k lt h (inl below) = last k below h
    by k lt h (inr le) =
        let e : k ≡ upto = omega arith in
        other (ap (λ (u : State). bucket_at (state_hash u) buckets) (same_Some s h.0 (sym at ∙ (ap (slice_get states) (sym e) ∙ h.1))) ∙ h.2)
last_next states buckets b upto (Some q) s at other last = ((let lt = last.0 in omega arith), last.1, λ k above lt h. by k above lt h (cases_lt k upto))
  where
    by : (k : ℕ) → q < k → k < upto + 1 → IsInBucket states buckets b k → (k < upto) ⊎ (upto ≤ k) → ⊥
    by k above lt h (inl below) = last.2 k above below h
    by k above lt h (inr le) =
        let e : k ≡ upto = omega arith in
        other (ap (λ (u : State). bucket_at (state_hash u) buckets) (same_Some s h.0 (sym at ∙ (ap (slice_get states) (sym e) ∙ h.1))) ∙ h.2)

-- one of this bucket
last_here : (states : List State) (buckets upto : ℕ) (s : State) → slice_get states upto ≡ Some s → IsLast states buckets (bucket_at (state_hash s) buckets) (upto + 1) (Some upto)
last_here states buckets upto s at = (omega arith, (s, at, refl), λ k above lt h. absurd (omega arith))

-- ---- one note further

-- no note is chained yet
pub chained_none : (states : List State) (notes : List Note) (heads : List (Option ℕ)) → ((b : ℕ) → bucket_head heads b ≡ None) → AreChained states notes heads 0
chained_none states notes heads empty = record {
  before = λ k n lt at. absurd (omega arith);
  last = λ b lt. subst (λ (o : Option ℕ). IsLast states (length heads) b 0 o) (sym (empty b)) (λ k under h. absurd (omega arith));
}

pub chained_longer :
    (states more : List State) (notes : List Note) (heads : List (Option ℕ)) (count : ℕ) → count ≤ length states → AreChained states notes heads count → AreChained (states ++ more) notes heads count
chained_longer states more notes heads count le c = record {
  before = λ k n lt at. last_longer states more (length heads) (bucket_at n.hash (length heads)) k n.before (omega arith) (c.before k n lt at);
  last = λ b lt. last_longer states more (length heads) b count (bucket_head heads b) le (c.last b lt);
}

-- the next note has the place that its bucket had, and the bucket that of the note
pub record IsLinked (notes notes' : List Note) (heads heads' : List (Option ℕ)) (count hash : ℕ) : Type 0 where
  pub below : (k : ℕ) (n : Note) → k < count → slice_get notes' k ≡ Some n → slice_get notes k ≡ Some n
  pub next : (n : Note) → slice_get notes' count ≡ Some n → (n.hash ≡ hash) × (n.before ≡ bucket_head heads (bucket_at hash (length heads)))
  pub put : heads' ≡ set heads (bucket_at hash (length heads)) (Some count)

pub chained_next :
    (states : List State) (notes notes' : List Note) (heads heads' : List (Option ℕ)) (count hash : ℕ) (s : State) → AreChained states notes heads count → 0 < length heads
    → slice_get states count ≡ Some s → hash ≡ state_hash s → IsLinked notes notes' heads heads' count hash → AreChained states notes' heads' (count + 1)
chained_next states notes notes' heads heads' count hash s c some at is l =
    subst (λ (hs : List (Option ℕ)). AreChained states notes' hs (count + 1)) (sym l.put) (record {
      before = λ k n lt there.
          subst (λ (m : ℕ). IsLast states m (bucket_at n.hash m) k n.before) (sym same) (before_at k n lt there (cases_lt k count));
      last = λ b lt.
          subst (λ (m : ℕ). IsLast states m b (count + 1) (bucket_head (set heads bucket (Some count)) b)) (sym same)
          (last_at b (omega (arith, same)) (same_or_not b bucket));
    })
  where
    bucket : ℕ
    bucket = bucket_at hash (length heads)

    same : length (set heads (bucket_at hash (length heads)) (Some count)) ≡ length heads
    same = length-set heads (bucket_at hash (length heads)) (Some count)

    within : bucket_at hash (length heads) < length heads
    within = omega arith

    before_at : (k : ℕ) (n : Note) → k < count + 1 → slice_get notes' k ≡ Some n → (k < count) ⊎ (count ≤ k) → IsLast states (length heads) (bucket_at n.hash (length heads)) k n.before
    before_at k n lt there (inl below) = c.before k n below (l.below k n below there)
    before_at k n lt there (inr le) =
        let e : k ≡ count = omega arith in
        let x = l.next n (ap (slice_get notes') (sym e) ∙ there) in
        subst (λ (i : ℕ). IsLast states (length heads) (bucket_at n.hash (length heads)) i n.before) (sym e)
        (subst (λ (o : Option ℕ). IsLast states (length heads) (bucket_at n.hash (length heads)) count o) (sym x.1)
        (subst (λ (h : ℕ). IsLast states (length heads) (bucket_at h (length heads)) count (bucket_head heads (bucket_at hash (length heads)))) (sym x.0) (c.last (bucket_at hash (length heads)) within)))

    last_at :
        (b : ℕ) → b < length heads → (b ≡ bucket_at hash (length heads)) ⊎ (b ≢ bucket_at hash (length heads))
        → IsLast states (length heads) b (count + 1) (bucket_head (set heads (bucket_at hash (length heads)) (Some count)) b)
    last_at b lt (inl e) =
        subst (λ (i : ℕ). IsLast states (length heads) i (count + 1) (bucket_head (set heads (bucket_at hash (length heads)) (Some count)) i)) (sym e)
        (subst (λ (o : Option ℕ). IsLast states (length heads) (bucket_at hash (length heads)) (count + 1) o) (sym (get_or-set_same heads (bucket_at hash (length heads)) (Some count) None within))
        (subst (λ (h : ℕ). IsLast states (length heads) (bucket_at h (length heads)) (count + 1) (Some count)) (sym is) (last_here states (length heads) count s at)))
    last_at b lt (inr ne) =
        subst (λ (o : Option ℕ). IsLast states (length heads) b (count + 1) o) (sym (get_or-set_other heads (bucket_at hash (length heads)) b (Some count) None ne))
        (last_next states (length heads) b count (bucket_head heads b) s at (λ e. ne (sym e ∙ ap (λ (h : ℕ). bucket_at h (length heads)) (sym is))) (c.last b lt))

-- a note is linked where it stands
pub linked_set :
    (notes : List Note) (heads heads' : List (Option ℕ)) (place : ℕ) (n n' : Note) → slice_get notes place ≡ Some n → n'.hash ≡ n.hash
    → n'.before ≡ bucket_head heads (bucket_at n.hash (length heads)) → heads' ≡ set heads (bucket_at n.hash (length heads)) (Some place) → IsLinked notes (set notes place n') heads heads' place n.hash
linked_set notes heads heads' place n n' at hash before put = record {
  below = λ k m lt there. sym (get_set_other notes place n' k (λ e. omega arith)) ∙ there;
  next = λ m there.
      let is : n' ≡ m = same_Some n' m (sym (get_set_same notes place n' (slice_get_within notes place n at)) ∙ there) in (
        ap (λ (x : Note). x.hash) (sym is) ∙ hash,
        ap (λ (x : Note). x.before) (sym is) ∙ before,
      );
  put = put;
}

-- a note is linked after the others
pub linked_push :
    (notes notes' : List Note) (heads heads' : List (Option ℕ)) (hash : ℕ) (n : Note) → notes' ≡ notes ++ n ∷ [] → n.hash ≡ hash → n.before ≡ bucket_head heads (bucket_at hash (length heads))
    → heads' ≡ set heads (bucket_at hash (length heads)) (Some (length notes)) → IsLinked notes notes' heads heads' (length notes) hash
linked_push notes notes' heads heads' hash n is same before put = record {
  below = λ k m lt there. get_back notes (n ∷ []) k m lt (subst (λ (xs : List Note). slice_get xs k ≡ Some m) is there);
  next = λ m there.
      let e : n ≡ m = same_Some n m (sym (get_last notes n) ∙ subst (λ (xs : List Note). slice_get xs (length notes) ≡ Some m) is there) in (
        ap (λ (x : Note). x.hash) (sym e) ∙ same,
        ap (λ (x : Note). x.before) (sym e) ∙ before,
      );
  put = put;
}

-- ---- tables

-- notes are chained again one after the other
pub chained_set :
    (states : List State) (old notes : List Note) (heads heads' : List (Option ℕ)) (place : ℕ) (n n' : Note) → AreAlike old notes → AreNotesOf states old → AreChained states notes heads place
    → 0 < length heads → slice_get notes place ≡ Some n → n'.hash ≡ n.hash → n'.before ≡ bucket_head heads (bucket_at n.hash (length heads)) → heads' ≡ set heads (bucket_at n.hash (length heads)) (Some place)
    → AreChained states (set notes place n') heads' (place + 1)
chained_set states old notes heads heads' place n n' a of c some at hash before put =
    let now = notes_of_alike states old notes a of in
    let lt = slice_get_within notes place n at in
    let x = slice_get_there states place (let e = now.as_many in omega arith) in
    chained_next states notes (set notes place n') heads heads' place n.hash x.0 c some x.1 (now.hashes place n x.0 at x.1) (linked_set notes heads heads' place n n' at hash before put)

pub table_push :
    (states : List State) (s : State) (notes notes' : List Note) (heads heads' : List (Option ℕ)) (hash : ℕ) (n : Note) → IsTable states notes heads → state_hash s ≡ hash → length notes < length heads
    → notes' ≡ notes ++ n ∷ [] → n.hash ≡ hash → n.before ≡ bucket_head heads (bucket_at hash (length heads)) → heads' ≡ set heads (bucket_at hash (length heads)) (Some (length notes))
    → IsTable (states ++ s ∷ []) notes' heads'
table_push states s notes notes' heads heads' hash n t is room items same before put =
    let of = t.notes_of in
    let many = of.as_many in
    let more : length notes' ≡ length notes + 1 = ap length items ∙ length-append notes (n ∷ []) in
    let there : slice_get (states ++ s ∷ []) (length notes) ≡ Some s = ap (slice_get (states ++ s ∷ [])) many ∙ get_last states s in
    let kept : length heads' ≡ length heads = ap length put ∙ length-set heads (bucket_at hash (length heads)) (Some (length notes)) in
    record {
      notes_of = record {
        as_many = more ∙ (ap (λ (i : ℕ). i + 1) many ∙ sym (length-append states (s ∷ [])));
        hashes = λ k m u at is_u. hashed k m u (get_push notes n k m (subst (λ (xs : List Note). slice_get xs k ≡ Some m) items at)) is_u;
      };
      chained = subst (AreChained (states ++ s ∷ []) notes' heads') (sym more)
          (chained_next (states ++ s ∷ []) notes notes' heads heads' (length notes) hash s
          (chained_longer states (s ∷ []) notes heads (length notes) (omega arith) t.chained) (omega arith) there (sym is) (linked_push notes notes' heads heads' hash n items same before put));
      enough = omega (arith, more, kept, room);
    }
  where
    hashed : (k : ℕ) (m : Note) (u : State) → (slice_get notes k ≡ Some m) ⊎ ((k ≡ length notes) × (n ≡ m)) → slice_get (states ++ s ∷ []) k ≡ Some u → m.hash ≡ state_hash u
    hashed k m u (inl old) is_u =
        let of = t.notes_of in
        let many = of.as_many in
        let lt = slice_get_within notes k m old in
        of.hashes k m u old (get_back states (s ∷ []) k u (omega arith) is_u)
    hashed k m u (inr last) is_u =
        let of = t.notes_of in
        let e : s ≡ u = same_Some s u (sym (get_last states s) ∙ (ap (slice_get (states ++ s ∷ [])) (sym (last.0 ∙ of.as_many)) ∙ is_u)) in
        ap (λ (x : Note). x.hash) (sym last.1) ∙ (same ∙ (sym is ∙ ap state_hash e))

-- a note changes, but not its hash and its chain
pub table_set :
    (states : List State) (notes : List Note) (heads : List (Option ℕ)) (place : ℕ) (n n' : Note) → IsTable states notes heads → slice_get notes place ≡ Some n → n'.hash ≡ n.hash → n'.before ≡ n.before
    → IsTable states (set notes place n') heads
table_set states notes heads place n n' t at hash before =
    let of = t.notes_of in
    let c = t.chained in
    let many = length-set notes place n' in
    record {
      notes_of = record {
        as_many = many ∙ of.as_many;
        hashes = λ k m s there is.
            ⊎_elim (λ here. ap (λ (x : Note). x.hash) (sym here.1) ∙ (hash ∙ of.hashes k n s (ap (slice_get notes) here.0 ∙ at) is)) (λ other. of.hashes k m s other is) (get_set notes place n' k m there);
      };
      chained = record {
        before = λ k m lt there.
            ⊎_elim (λ here. subst (λ (x : Note). IsLast states (length heads) (bucket_at x.hash (length heads)) k x.before) here.1
            (subst (λ (h : ℕ). IsLast states (length heads) (bucket_at h (length heads)) k n'.before) (sym hash)
            (subst (λ (o : Option ℕ). IsLast states (length heads) (bucket_at n.hash (length heads)) k o) (sym before)
            (c.before k n (omega (arith, many)) (ap (slice_get notes) here.0 ∙ at)))))
            (λ other. c.before k m (omega (arith, many)) other) (get_set notes place n' k m there);
        last = λ b lt. subst (λ (i : ℕ). IsLast states (length heads) b i (bucket_head heads b)) (sym many) (c.last b lt);
      };
      enough = (let e = t.enough in omega (arith, many, e));
    }

-- all notes are chained again
pub table_anew :
    (states : List State) (notes notes' : List Note) (heads heads' : List (Option ℕ)) → IsTable states notes heads → AreAlike notes notes' → AreChained states notes' heads' (length notes) → length notes ≤ length heads'
    → IsTable states notes' heads'
table_anew states notes notes' heads heads' t a c enough = record {
  notes_of = notes_of_alike states notes notes' a t.notes_of;
  chained = subst (AreChained states notes' heads') (sym a.as_many) c;
  enough = (let e = a.as_many in omega arith);
}

-- ---- a search for a state

-- a place is not after where a search goes on
abbrev pub IsUpTo : ℕ → Option ℕ → Type 0
IsUpTo k None = ⊥
IsUpTo k (Some q) = k ≤ q

-- a search that goes on at a place: the state is not after it, and a state of the same bucket
-- stands there
pub record IsSearch (states : List State) (buckets : ℕ) (s : State) (next : Option ℕ) : Type 0 where
  pub up_to : (k : ℕ) → slice_get states k ≡ Some s → IsUpTo k next
  pub there : (q : ℕ) → next ≡ Some q → IsInBucket states buckets (bucket_at (state_hash s) buckets) q

-- how far it may still go
abbrev pub left : Option ℕ → ℕ
left None = 0
left (Some q) = q + 1

up_to_last : (states : List State) (buckets b upto : ℕ) (o : Option ℕ) → IsLast states buckets b upto o → (k : ℕ) → k < upto → IsInBucket states buckets b k → IsUpTo k o
up_to_last known buckets b upto None last k lt h = last k lt h
up_to_last known buckets b upto (Some q) last k lt h =
    elim (cases_lt q k) [
      | inl above ↦ absurd (last.2 k above lt h)
      | inr le ↦ le
    ]

there_last : (states : List State) (buckets b upto : ℕ) (o : Option ℕ) → IsLast states buckets b upto o → (q : ℕ) → o ≡ Some q → IsInBucket states buckets b q
there_last known buckets b upto None last q e = absurd (none-some q e)
there_last known buckets b upto (Some p) last q e = subst (IsInBucket known buckets b) (same_Some p q e) last.1

left_last : (states : List State) (buckets b upto : ℕ) (o : Option ℕ) → IsLast states buckets b upto o → left o < upto + 1
left_last states buckets b upto None last = omega arith
left_last states buckets b upto (Some q) last = let lt = last.0 in omega arith

module _ (states : List State) (notes : List Note) (heads : List (Option ℕ)) (t : IsTable states notes heads) (s : State) where
  pub search_starts : 0 < length heads → IsSearch states (length heads) s (bucket_head heads (bucket_at (state_hash s) (length heads)))
  search_starts some =
      let of = t.notes_of in
      let c = t.chained in
      let many = of.as_many in
      let last = c.last (bucket_at (state_hash s) (length heads)) (omega arith) in
      record {
        up_to = λ j at.
            let lt = slice_get_within states j s at in
            up_to_last states (length heads) (bucket_at (state_hash s) (length heads)) (length notes) (bucket_head heads (bucket_at (state_hash s) (length heads))) last j (omega arith) (s, at, refl);
        there = λ q e. there_last states (length heads) (bucket_at (state_hash s) (length heads)) (length notes) (bucket_head heads (bucket_at (state_hash s) (length heads))) last q e;
      }

  -- where the search goes on is a note
  pub search_within : (place : ℕ) → IsSearch states (length heads) s (Some place) → place < length notes
  search_within place x =
      let h = x.there place refl in
      let lt = slice_get_within states place h.0 h.1 in
      let of = t.notes_of in
      let many = of.as_many in
      omega arith

  pub search_goes_on :
      (place : ℕ) (n : Note) → IsSearch states (length heads) s (Some place) → slice_get notes place ≡ Some n → (slice_get states place ≡ Some s → ⊥) → IsSearch states (length heads) s n.before
  search_goes_on place n x at other =
      let h = x.there place refl in
      let of = t.notes_of in
      let c = t.chained in
      let hash : bucket_at n.hash (length heads) ≡ bucket_at (state_hash s) (length heads) = ap (λ (i : ℕ). bucket_at i (length heads)) (of.hashes place n h.0 at h.1) ∙ h.2 in
      let last = subst (λ (b : ℕ). IsLast states (length heads) b place n.before) hash (c.before place n (slice_get_within notes place n at) at) in
      record {
        up_to = λ j there.
            let le = x.up_to j there in
            let apart : j ≢ place = λ e. other (ap (slice_get states) (sym e) ∙ there) in
            up_to_last states (length heads) (bucket_at (state_hash s) (length heads)) place n.before last j (omega arith) (s, there, refl);
        there = λ q e. there_last states (length heads) (bucket_at (state_hash s) (length heads)) place n.before last q e;
      }

  pub search_shortens : (place : ℕ) (n : Note) → slice_get notes place ≡ Some n → left n.before < place + 1
  search_shortens place n at =
      let c = t.chained in
      left_last states (length heads) (bucket_at n.hash (length heads)) place n.before (c.before place n (slice_get_within notes place n at) at)
