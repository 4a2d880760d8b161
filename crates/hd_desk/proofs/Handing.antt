-- Lists of passes, of which one has stepped.
use Rattle.std.proofs.Common.{◌≡◌, ℕ, zero, suc, ◌+◌, ◌<◌, ◌≤◌, List, [], ◌∷◌, ◌++◌, Option, Some, None, map, length, take, replicate, set, get_or, slice_get, refl, sym, ap, ◌∙◌, subst, arith}
use Rattle.std.specs.List.{AllByRecursion, sum_by}
use Rattle.std.specs.Option.{option_map}
use Rattle.std.specs.Prelude.{Result, Ok, Err, IfSome, IfNone, OnOk, OnErr, MatchOption, MatchResult}
use Rattle.std.proofs.lemmas.List.{length-map, map-append}
use Rattle.atomic_table.specs.Seated.{TableId}
use Rattle.crossbeam_queue.specs.Fifo.{Held}
use Rattle.crossbeam_queue.specs.Passes.{Pass, view, IsSamePass}
use Rattle.hd_base.proofs.Lists.{cons_parts}
use Rattle.std.proofs.lemmas.Option.{same_Some}
use Rattle.hd_desk.specs.declared.rule.Post.{Post}
use Rattle.hd_desk.specs.declared.rule.TheConstants.{ALL_PARTS}
use Rattle.hd_desk.specs.Mail.{HasPut, HasTaken, IsEven}
use Rattle.hd_desk.specs.Hands.{PostView, HandsView, post_of, IsHand, IsEvened, changed_at, fresh_post, parts_joined, with_put, with_taken, with_other, joined, put_into, taken_from}

pub some_at : {X : Type 0} (xs : List X) (k : ℕ) (x : X) → k < length xs → x ≡ get_or xs k x → slice_get xs k ≡ Some x
some_at [] k x within at = absurd (omega arith)
some_at (y ∷ xs) zero x within at = ap Some (sym at)
some_at (y ∷ xs) (suc k) x within at = some_at xs k x (omega arith) at

module _ {K A : Type 0} where
  -- ---- the pass at a place

  hand_at : (of : K) (passes : List (Pass A (Post K A))) (k : ℕ) (d : Pass A (Post K A)) → AllByRecursion (IsHand of) passes → k < length passes → IsHand of (get_or passes k d)
  hand_at of [] k d all within = absurd (omega arith)
  hand_at of (p ∷ passes) zero d all within = all.0
  hand_at of (p ∷ passes) (suc k) d all within = hand_at of passes k d all.1 (omega arith)

  -- there is one for each mailbox
  pub as_many : {Q : Type 0} (name : Q → TableId) (passes : List (Pass A (Post K A))) (boxes : List Q) → map (λ (x : PostView A). x.mailbox) (map post_of passes) ≡ map name boxes → length passes ≡ length boxes
  as_many name [] [] e = refl
  as_many name [] (q ∷ boxes) e = absurd (cc)
  as_many name (p ∷ passes) [] e = absurd (cc)
  as_many name (p ∷ passes) (q ∷ boxes) e = ap suc (as_many name passes boxes (cons_parts _ _ _ _ e).1)

  -- it is of the mailbox there
  named_at : {Q : Type 0} (name : Q → TableId) (passes : List (Pass A (Post K A))) (boxes : List Q) (k : ℕ) (p : Pass A (Post K A)) (q : Q) → map (λ (x : PostView A). x.mailbox) (map post_of passes) ≡ map name boxes → k < length passes → (get_or passes k p).table_id ≡ name (get_or boxes k q)
  named_at name [] boxes k p q e within = absurd (omega arith)
  named_at name (x ∷ passes) [] k p q e within = absurd (cc)
  named_at name (x ∷ passes) (y ∷ boxes) zero p q e within = (cons_parts _ _ _ _ e).0
  named_at name (x ∷ passes) (y ∷ boxes) (suc k) p q e within = named_at name passes boxes k p q (cons_parts _ _ _ _ e).1 (omega arith)

  post_at : (passes : List (Pass A (Post K A))) (k : ℕ) (p : Pass A (Post K A)) → k < length passes → p ≡ get_or passes k p → slice_get (map post_of passes) k ≡ Some (post_of p)
  post_at [] k p within at = absurd (omega arith)
  post_at (x ∷ passes) zero p within at = ap (λ (y : Pass A (Post K A)). Some (post_of y)) (sym at)
  post_at (x ∷ passes) (suc k) p within at = post_at passes k p (omega arith) at

  -- ---- a pass has stepped

  -- a pass as contracts see it, by the name of its mailbox and what it knows
  abbrev seen_as : TableId → Post K A → PostView A
  seen_as t v = record { mailbox = t; parts = v.parts; put = v.put; taken = v.taken }

  pub post_after : (p q : Pass A (Post K A)) (w : Post K A) → q.table_id ≡ p.table_id → view q ≡ w → post_of q ≡ seen_as p.table_id w
  post_after p q w same is = ap (λ (t : TableId). seen_as t (view q)) same ∙ ap (seen_as p.table_id) is

  pub hand_after : (of : K) (p q : Pass A (Post K A)) (w : Post K A) → IsHand of p → q.me.1 ≡ p.me.1 → view q ≡ w → 0 < w.parts → w.of ≡ Some of → IsHand of q
  hand_after of p q w hand same is part knows = record {
    home = same ∙ hand.home;
    part = subst (λ (v : Post K A). 0 < v.parts) (sym is) part;
    knows = ap (λ (v : Post K A). v.of) is ∙ knows;
  }

  pub hands_set : (of : K) (passes : List (Pass A (Post K A))) (k : ℕ) (q : Pass A (Post K A)) → AllByRecursion (IsHand of) passes → IsHand of q → AllByRecursion (IsHand of) (set passes k q)
  hands_set of [] k q all is = tt
  hands_set of (p ∷ passes) zero q all is = (is, all.1)
  hands_set of (p ∷ passes) (suc k) q all is = (all.0, hands_set of passes k q all.1 is)

  pub posts_set : (passes : List (Pass A (Post K A))) (k : ℕ) (q d : Pass A (Post K A)) (f : PostView A → PostView A) → post_of q ≡ f (post_of (get_or passes k d)) → map post_of (set passes k q) ≡ changed_at k f (map post_of passes)
  posts_set [] k q d f is = refl
  posts_set (p ∷ passes) zero q d f is = ap (λ (x : PostView A). x ∷ map post_of passes) is
  posts_set (p ∷ passes) (suc k) q d f is = ap (λ (xs : List (PostView A)). post_of p ∷ xs) (posts_set passes k q d f is)

-- ---- what contracts see of them

module _ {A : Type 0} where
  -- where nothing has changed
  pub changed_none : (k : ℕ) (posts : List (PostView A)) → changed_at k (λ p. p) posts ≡ posts
  changed_none k [] = refl
  changed_none zero (p ∷ posts) = refl
  changed_none (suc k) (p ∷ posts) = ap (λ (xs : List (PostView A)). p ∷ xs) (changed_none k posts)

  -- what a change leaves alone stays
  pub kept_changed : {X : Type 0} (of : PostView A → X) (k : ℕ) (f : PostView A → PostView A) (posts : List (PostView A)) → ((p : PostView A) → of (f p) ≡ of p) → map of (changed_at k f posts) ≡ map of posts
  kept_changed of k f [] same = refl
  kept_changed of zero f (p ∷ posts) same = ap (λ x. x ∷ map of posts) (same p)
  kept_changed of (suc k) f (p ∷ posts) same = ap (λ xs. of p ∷ xs) (kept_changed of k f posts same)

-- ---- a thread's passes beside the mailboxes, as contracts see both

-- a pass that is kept, of a mailbox of this name; it knows that the items are of this
pub record Stands {K A : Type 0} (of : K) (name : TableId) (p : Pass A (Post K A)) : Type 0 where
  pub hand : IsHand of p
  pub named : p.table_id ≡ name

module _ {K A Q : Type 0} where
  pub lined_stands :
      (name : Q → TableId) (of : K) (passes : List (Pass A (Post K A))) (boxes : List Q)
      → AllByRecursion (IsHand of) passes → map (λ (x : PostView A). x.mailbox) (map post_of passes) ≡ map name boxes
      → (k : ℕ) (p : Pass A (Post K A)) (q : Q) → k < length boxes → p ≡ get_or passes k p → q ≡ get_or boxes k q
      → Stands of (name q) p
  lined_stands name of passes boxes all lined k p q there at box =
      let same = as_many name passes boxes lined in
      let within : k < length passes = omega arith in
      record {
        hand = subst (IsHand of) (sym at) (hand_at of passes k p all within);
        named = ap (λ (x : Pass A (Post K A)). x.table_id) at ∙ (named_at name passes boxes k p q lined within ∙ ap name (sym box));
      }

  -- what stands at a place, as contracts see it
  pub lined_at :
      (name : Q → TableId) (passes : List (Pass A (Post K A))) (boxes : List Q)
      → map (λ (x : PostView A). x.mailbox) (map post_of passes) ≡ map name boxes
      → (k : ℕ) (p : Pass A (Post K A)) → k < length boxes → p ≡ get_or passes k p
      → slice_get (map post_of passes) k ≡ Some (post_of p)
  lined_at name passes boxes lined k p there at =
      let same = as_many name passes boxes lined in
      post_at passes k p (omega arith) at

  pub stands :
      (name : Q → TableId) (of : K) (passes : List (Pass A (Post K A))) (boxes : List Q) (names : List TableId) (hands : HandsView K A)
      → map name boxes ≡ names → record { of = of; posts = map post_of passes } ≡ hands
      → AllByRecursion (IsHand of) passes → map (λ (x : PostView A). x.mailbox) hands.posts ≡ names
      → (k : ℕ) (p : Pass A (Post K A)) (q : Q) → k < length names → p ≡ get_or passes k p → q ≡ get_or boxes k q
      → Stands hands.of (name q) p
  stands name of passes boxes names hands boxes_are hands_are all for_them k p q there at box =
      let lined = ap (λ (h : HandsView K A). map (λ (x : PostView A). x.mailbox) h.posts) hands_are ∙ (for_them ∙ sym boxes_are) in
      let many : length names ≡ length boxes = ap length (sym boxes_are) ∙ length-map boxes name in
      let is = lined_stands name of passes boxes all lined k p q (omega arith) at box in
      record { hand = subst (λ (h : HandsView K A). IsHand h.of p) hands_are is.hand; named = is.named }

  pub stands_at :
      (name : Q → TableId) (of : K) (passes : List (Pass A (Post K A))) (boxes : List Q) (names : List TableId) (hands : HandsView K A)
      → map name boxes ≡ names → record { of = of; posts = map post_of passes } ≡ hands
      → map (λ (x : PostView A). x.mailbox) hands.posts ≡ names
      → (k : ℕ) (p : Pass A (Post K A)) → k < length names → p ≡ get_or passes k p
      → slice_get hands.posts k ≡ Some (post_of p)
  stands_at name of passes boxes names hands boxes_are hands_are for_them k p there at =
      let lined = ap (λ (h : HandsView K A). map (λ (x : PostView A). x.mailbox) h.posts) hands_are ∙ (for_them ∙ sym boxes_are) in
      let many : length names ≡ length boxes = ap length (sym boxes_are) ∙ length-map boxes name in
      ap (λ (h : HandsView K A). slice_get h.posts k) (sym hands_are) ∙ lined_at name passes boxes lined k p (omega arith) at

module _ {K A : Type 0} where
  -- one pass has stepped
  stepped :
      (of : K) (passes : List (Pass A (Post K A))) (hands : HandsView K A)
      → record { of = of; posts = map post_of passes } ≡ hands
      → (k : ℕ) (p q : Pass A (Post K A)) (f : PostView A → PostView A)
      → p ≡ get_or passes k p → post_of q ≡ f (post_of p)
      → record { of = of; posts = map post_of (set passes k q) } ≡ record hands { posts = changed_at k f hands.posts }
  stepped of passes hands hands_are k p q f at is =
      ap (λ (ps : List (PostView A)). let h : HandsView K A = record { of = of; posts = ps } in h) (posts_set passes k q p f (is ∙ ap (λ (x : Pass A (Post K A)). f (post_of x)) at))
      ∙ ap (λ (h : HandsView K A). let w : HandsView K A = record h { posts = changed_at k f h.posts } in w) hands_are

-- what a step leaves: what the passes are of, and their parts
pub record Stays {K A : Type 0} (old new : HandsView K A) : Type 0 where
  pub of : new.of ≡ old.of
  pub names : map (λ (p : PostView A). p.mailbox) new.posts ≡ map (λ (p : PostView A). p.mailbox) old.posts
  pub parts : map (λ (p : PostView A). p.parts) new.posts ≡ map (λ (p : PostView A). p.parts) old.posts

module _ {K A : Type 0} where
  stays_changed :
      (old new : HandsView K A) (k : ℕ) (f : PostView A → PostView A)
      → ((p : PostView A) → (f p).mailbox ≡ p.mailbox) → ((p : PostView A) → (f p).parts ≡ p.parts)
      → new ≡ record old { posts = changed_at k f old.posts }
      → Stays old new
  stays_changed old new k f same_name same_parts is = record {
    of = ap (λ (h : HandsView K A). h.of) is;
    names = ap (λ (h : HandsView K A). map (λ (p : PostView A). p.mailbox) h.posts) is ∙ kept_changed (λ (p : PostView A). p.mailbox) k f old.posts same_name;
    parts = ap (λ (h : HandsView K A). map (λ (p : PostView A). p.parts) h.posts) is ∙ kept_changed (λ (p : PostView A). p.parts) k f old.posts same_parts;
  }

  stays_same : (old new : HandsView K A) → new ≡ old → Stays old new
  stays_same old new is = record {
    of = ap (λ (h : HandsView K A). h.of) is;
    names = ap (λ (h : HandsView K A). map (λ (p : PostView A). p.mailbox) h.posts) is;
    parts = ap (λ (h : HandsView K A). map (λ (p : PostView A). p.parts) h.posts) is;
  }

  pub unstepped :
      (of : K) (passes : List (Pass A (Post K A))) (hands : HandsView K A)
      → record { of = of; posts = map post_of passes } ≡ hands
      → (k : ℕ) (p q : Pass A (Post K A))
      → p ≡ get_or passes k p → post_of q ≡ post_of p
      → record { of = of; posts = map post_of (set passes k q) } ≡ hands
  unstepped of passes hands hands_are k p q at is =
      stepped of passes hands hands_are k p q (λ x. x) at is
      ∙ ap (λ (ps : List (PostView A)). let h : HandsView K A = record hands { posts = ps } in h) (changed_none k hands.posts)

-- what a push leaves
pub record IsPushed {K A U : Type 0} (k : ℕ) (x : A) (old new : HandsView K A) (r : Result U A) : Type 0 where
  pub put : OnOk r (new ≡ put_into k x old)
  pub back : OnErr r (new ≡ old)
  pub stays : Stays old new

-- what a pop leaves
pub record IsPopped {K A : Type 0} (of : A → K) (k : ℕ) (old new : HandsView K A) (r : Option A) : Type 0 where
  pub taken : IfSome r (λ x. new ≡ taken_from k x old)
  pub fits : IfSome r (λ x. of x ≡ old.of)
  pub none : IfNone r (new ≡ old)
  pub stays : Stays old new

module _ {K A : Type 0} where
  pub pushed :
      {U : Type 0} (of : K) (passes : List (Pass A (Post K A))) (hands : HandsView K A)
      → record { of = of; posts = map post_of passes } ≡ hands
      → (k : ℕ) (p q : Pass A (Post K A)) (x : A) (r : Result U A)
      → p ≡ get_or passes k p → IsSamePass p q
      → MatchResult r (λ _. HasPut (view p) x (view q)) (λ y. (y ≡ x) × (view q ≡ view p))
      → IsPushed k x hands (record { of = of; posts = map post_of (set passes k q) }) r
  pushed of passes hands hands_are k p q x (Ok u) at same rule =
      let is = stepped of passes hands hands_are k p q (with_put x) at (post_after p q _ same.0 rule) in
      record { put = is; back = tt; stays = stays_changed hands _ k (with_put x) (λ _. refl) (λ _. refl) is }
  pushed of passes hands hands_are k p q x (Err y) at same rule =
      let is = unstepped of passes hands hands_are k p q at (post_after p q _ same.0 rule.1) in
      record { put = tt; back = is; stays = stays_same hands _ is }

  pub popped :
      (kind : A → K) (of : K) (passes : List (Pass A (Post K A))) (hands : HandsView K A)
      → record { of = of; posts = map post_of passes } ≡ hands
      → (k : ℕ) (p q : Pass A (Post K A)) (r : Option A)
      → IsHand hands.of p → p ≡ get_or passes k p → IsSamePass p q
      → MatchOption r (view q ≡ view p) (λ x. HasTaken kind (view p) x (view q))
      → IsPopped kind k hands (record { of = of; posts = map post_of (set passes k q) }) r
  popped kind of passes hands hands_are k p q (Some x) hand at same rule =
      let is = stepped of passes hands hands_are k p q (with_taken x) at (post_after p q _ same.0 rule.left) in
      record { taken = is; fits = same_Some _ _ (sym rule.fits ∙ hand.knows); none = tt; stays = stays_changed hands _ k (with_taken x) (λ _. refl) (λ _. refl) is }
  popped kind of passes hands hands_are k p q None hand at same rule =
      let is = unstepped of passes hands hands_are k p q at (post_after p q _ same.0 rule) in
      record { taken = tt; fits = tt; none = is; stays = stays_same hands _ is }

  -- of a pop that waits
  pub last_popped :
      (kind : A → K) (p q : Pass A (Post K A)) (r : Option A)
      → MatchOption r ((view q ≡ view p) × Held 0 (IsEven (view p))) (λ x. HasTaken kind (view p) x (view q))
      → MatchOption r (view q ≡ view p) (λ x. HasTaken kind (view p) x (view q))
  last_popped kind p q (Some x) rule = rule
  last_popped kind p q None rule = rule.0

  pub last_evened :
      (kind : A → K) (p q : Pass A (Post K A)) (r : Option A)
      → MatchOption r ((view q ≡ view p) × Held 0 (IsEven (view p))) (λ x. HasTaken kind (view p) x (view q))
      → IfNone r (IsEvened (post_of p))
  last_evened kind p q (Some x) rule = tt
  last_evened kind p q None rule = λ h. nothing_more (view p) rule.1.0 rule.1.1 rule.1.2 h
    where
      nothing_more : (v : Post K A) (items : List A) → length items ≡ 0 → IsEven v items → (h : A → ℕ) → sum_by h v.put ≡ sum_by h v.taken
      nothing_more v [] none even h = let all = even h in omega arith
      nothing_more v (x ∷ items) none even h = absurd (omega arith)

module _ {A : Type 0} where
  pub kept_map : {X : Type 0} (of : PostView A → X) (f : PostView A → PostView A) (posts : List (PostView A)) → ((p : PostView A) → of (f p) ≡ of p) → map of (map f posts) ≡ map of posts
  kept_map of f [] same = refl
  kept_map of f (p ∷ posts) same = ap (λ x. x ∷ map of (map f posts)) (same p) ∙ ap (λ xs. of p ∷ xs) (kept_map of f posts same)

  pub moved_map : (of : PostView A → ℕ) (f : PostView A → PostView A) (move : ℕ → ℕ) (posts : List (PostView A)) → ((p : PostView A) → of (f p) ≡ move (of p)) → map of (map f posts) ≡ map move (map of posts)
  moved_map of f move [] same = refl
  moved_map of f move (p ∷ posts) same = ap (λ x. x ∷ map of (map f posts)) (same p) ∙ ap (λ xs. move (of p) ∷ xs) (moved_map of f move posts same)

  -- one more of the others is taken in
  pub joined-push : (posts others : List (PostView A)) (o : PostView A) → length others < length posts → joined (changed_at (length others) (with_other o) posts) others ≡ joined posts (others ++ o ∷ [])
  joined-push [] others o within = absurd (omega arith)
  joined-push (p ∷ posts) [] o within = refl
  joined-push (p ∷ posts) (x ∷ others) o within = ap (λ (xs : List (PostView A)). with_other x p ∷ xs) (joined-push posts others o (omega arith))

  -- the first so many have changed
  abbrev pub changed_below : ℕ → (PostView A → PostView A) → List (PostView A) → List (PostView A)
  changed_below n f [] = []
  changed_below zero f (p ∷ posts) = p ∷ posts
  changed_below (suc n) f (p ∷ posts) = f p ∷ changed_below n f posts

  pub changed_below_none : (f : PostView A → PostView A) (posts : List (PostView A)) → changed_below 0 f posts ≡ posts
  changed_below_none f [] = refl
  changed_below_none f (p ∷ posts) = refl

  pub changed_below_more : (n : ℕ) (f : PostView A → PostView A) (posts : List (PostView A)) → changed_at n f (changed_below n f posts) ≡ changed_below (suc n) f posts
  changed_below_more n f [] = refl
  changed_below_more zero f (p ∷ posts) = ap (λ (xs : List (PostView A)). f p ∷ xs) (sym (changed_below_none f posts))
  changed_below_more (suc n) f (p ∷ posts) = ap (λ (xs : List (PostView A)). f p ∷ xs) (changed_below_more n f posts)

  pub changed_below_all : (n : ℕ) (f : PostView A → PostView A) (posts : List (PostView A)) → length posts ≤ n → changed_below n f posts ≡ map f posts
  changed_below_all n f [] within = refl
  changed_below_all zero f (p ∷ posts) within = absurd (omega arith)
  changed_below_all (suc n) f (p ∷ posts) within = ap (λ (xs : List (PostView A)). f p ∷ xs) (changed_below_all n f posts (omega arith))

  -- what stands there has not changed yet
  pub changed_below_at : (n : ℕ) (f : PostView A → PostView A) (posts : List (PostView A)) → slice_get (changed_below n f posts) n ≡ slice_get posts n
  changed_below_at n f [] = refl
  changed_below_at zero f (p ∷ posts) = refl
  changed_below_at (suc n) f (p ∷ posts) = changed_below_at n f posts

  pub names_below : (n : ℕ) (f : PostView A → PostView A) (posts : List (PostView A)) → ((p : PostView A) → (f p).mailbox ≡ p.mailbox) → map (λ (p : PostView A). p.mailbox) (changed_below n f posts) ≡ map (λ (p : PostView A). p.mailbox) posts
  names_below n f [] same = refl
  names_below zero f (p ∷ posts) same = refl
  names_below (suc n) f (p ∷ posts) same = ap (λ (t : TableId). t ∷ map (λ (x : PostView A). x.mailbox) (changed_below n f posts)) (same p) ∙ ap (λ (ts : List TableId). p.mailbox ∷ ts) (names_below n f posts same)

  -- ---- how many parts they have

  pub has_all : (posts : List (PostView A)) (k : ℕ) (p : PostView A) → slice_get posts k ≡ Some p → slice_get (map (λ (x : PostView A). x.parts) posts) k ≡ Some ALL_PARTS → p.parts ≡ ALL_PARTS
  has_all [] k p at all = absurd (cc)
  has_all (x ∷ posts) zero p at all = ap (λ (y : PostView A). y.parts) (sym (same_Some x p at)) ∙ same_Some x.parts ALL_PARTS all
  has_all (x ∷ posts) (suc k) p at all = has_all posts k p at all

  pub parts-joined : (posts others : List (PostView A)) → map (λ (x : PostView A). x.parts) (joined posts others) ≡ parts_joined (map (λ (x : PostView A). x.parts) posts) (map (λ (x : PostView A). x.parts) others)
  parts-joined posts [] = refl
  parts-joined [] (o ∷ others) = refl
  parts-joined (p ∷ posts) (o ∷ others) = ap (λ (ns : List ℕ). (p.parts + o.parts) ∷ ns) (parts-joined posts others)

  pub names-joined : (posts others : List (PostView A)) → map (λ (x : PostView A). x.mailbox) (joined posts others) ≡ map (λ (x : PostView A). x.mailbox) posts
  names-joined posts [] = refl
  names-joined [] (o ∷ others) = refl
  names-joined (p ∷ posts) (o ∷ others) = ap (λ (ts : List TableId). p.mailbox ∷ ts) (names-joined posts others)

module _ (A : Type 0) where
  pub parts-fresh : (names : List TableId) → map (λ (x : PostView A). x.parts) (map fresh_post names) ≡ replicate (length names) ALL_PARTS
  parts-fresh [] = refl
  parts-fresh (t ∷ names) = ap (λ (ns : List ℕ). ALL_PARTS ∷ ns) (parts-fresh names)

  pub names-fresh : (names : List TableId) → map (λ (x : PostView A). x.mailbox) (map fresh_post names) ≡ names
  names-fresh [] = refl
  names-fresh (t ∷ names) = ap (λ (ts : List TableId). t ∷ ts) (names-fresh names)

-- ---- what goes from pass to pass

pub take_push : {X Y : Type 0} (f : X → Y) (xs : List X) (n : ℕ) (y : Y) → option_map f (slice_get xs n) ≡ Some y → map f (take (n + 1) xs) ≡ map f (take n xs) ++ y ∷ []
take_push {X = X} {Y = Y} f xs n y is =
    let one : n + 1 ≡ suc n = omega arith in
    ap (λ k. map f (take k xs)) one ∙ go xs n is
  where
    go : (zs : List X) (k : ℕ) → option_map f (slice_get zs k) ≡ Some y → map f (take (suc k) zs) ≡ map f (take k zs) ++ y ∷ []
    go [] k e = absurd (cc)
    go (z ∷ zs) zero e = ap (λ x. x ∷ []) (same_Some (f z) y e)
    go (z ∷ zs) (suc k) e = ap (λ ys. f z ∷ ys) (go zs k e)

pub all_last : {X : Type 0} (P : X → Type 0) (xs : List X) (x : X) → AllByRecursion P (xs ++ x ∷ []) → AllByRecursion P xs × P x
all_last P [] x all = (tt, all.0)
all_last P (y ∷ xs) x all = let rest = all_last P xs x all.1 in ((all.0, rest.0), rest.1)

module _ {A : Type 0} where
  pub changed_below_next : (n : ℕ) (f : PostView A → PostView A) (posts : List (PostView A)) → changed_at n f (changed_below n f posts) ≡ changed_below (n + 1) f posts
  changed_below_next n f posts =
      let one : suc n ≡ n + 1 = omega arith in
      changed_below_more n f posts ∙ ap (λ k. changed_below k f posts) one

  pub parts_at : (posts : List (PostView A)) (k : ℕ) → AllByRecursion (λ (p : PostView A). 1 < p.parts) posts → IfSome (slice_get posts k) (λ p. 1 < p.parts)
  parts_at [] k all = tt
  parts_at (x ∷ posts) zero all = all.0
  parts_at (x ∷ posts) (suc k) all = parts_at posts k all.1

  pub are_shareable : (posts : List (PostView A)) → AllByRecursion (λ n. 1 < n) (map (λ (x : PostView A). x.parts) posts) → AllByRecursion (λ (p : PostView A). 1 < p.parts) posts
  are_shareable [] all = tt
  are_shareable (x ∷ posts) all = (all.0, are_shareable posts all.1)

module _ {K A : Type 0} where
  -- the last pass is of the mailbox in its place
  pub last_named : (others : List (Pass A (Post K A))) (other : Pass A (Post K A)) (rest names : List TableId) → map (λ (x : PostView A). x.mailbox) (map post_of (others ++ other ∷ [])) ++ rest ≡ names → slice_get names (length others) ≡ Some other.table_id
  last_named others other rest names e = ap (λ (ts : List TableId). slice_get ts (length others)) (sym e) ∙ go others
    where
      go : (os : List (Pass A (Post K A))) → slice_get (map (λ (x : PostView A). x.mailbox) (map post_of (os ++ other ∷ [])) ++ rest) (length os) ≡ Some other.table_id
      go [] = refl
      go (o ∷ os) = go os

  pub last_there : (others : List (Pass A (Post K A))) (other : Pass A (Post K A)) (rest names : List TableId) → map (λ (x : PostView A). x.mailbox) (map post_of (others ++ other ∷ [])) ++ rest ≡ names → length others < length names
  last_there others other rest names e = subst (λ (ts : List TableId). length others < length ts) e (go others)
    where
      go : (os : List (Pass A (Post K A))) → length os < length (map (λ (x : PostView A). x.mailbox) (map post_of (os ++ other ∷ [])) ++ rest)
      go [] = omega arith
      go (o ∷ os) = let less = go os in omega arith

  pub last_left : (others : List (Pass A (Post K A))) (other : Pass A (Post K A)) (rest names : List TableId) → map (λ (x : PostView A). x.mailbox) (map post_of (others ++ other ∷ [])) ++ rest ≡ names → map (λ (x : PostView A). x.mailbox) (map post_of others) ++ other.table_id ∷ rest ≡ names
  last_left others other rest names e = go others ∙ e
    where
      go : (os : List (Pass A (Post K A))) → map (λ (x : PostView A). x.mailbox) (map post_of os) ++ other.table_id ∷ rest ≡ map (λ (x : PostView A). x.mailbox) (map post_of (os ++ other ∷ [])) ++ rest
      go [] = refl
      go (o ∷ os) = ap (λ (ts : List TableId). o.table_id ∷ ts) (go os)

  -- one more of the others is taken in
  pub joined_more : (posts : List (PostView A)) (others : List (Pass A (Post K A))) (other : Pass A (Post K A)) → length others < length posts → joined (changed_at (length others) (with_other (post_of other)) posts) (map post_of others) ≡ joined posts (map post_of (others ++ other ∷ []))
  joined_more posts others other within =
      let same = length-map others post_of in
      ap (λ (k : ℕ). joined (changed_at k (with_other (post_of other)) posts) (map post_of others)) (sym same)
      ∙ (joined-push posts (map post_of others) (post_of other) (omega arith) ∙ ap (joined posts) (sym (map-append post_of others (other ∷ []))))

  -- if nothing is left of the others
  pub joined_none : (posts : List (PostView A)) (others : List (Pass A (Post K A))) → length others ≡ 0 → posts ≡ joined posts (map post_of others)
  joined_none posts [] none = refl
  joined_none posts (o ∷ others) none = absurd (omega arith)
