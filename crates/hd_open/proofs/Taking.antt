-- What an open list keeps, and what contracts see, where nodes come and go.
use Rattle.std.proofs.Common.{◌≡◌, ◌⊎◌, ◌≤◌, ℕ, List, ◌∷◌, ◌++◌, [], Option, Some, None, length, set, slice_get, refl, ap, sym, ◌∙◌, subst, inl, inr, ⊎_elim, arith, length-append, length-set}
use Rattle.std.specs.List.{remove}
use Rattle.std.proofs.lemmas.List.{take-set-le}
use Rattle.std.proofs.lemmas.Option.{same_Some}
use Rattle.hd_open.specs.declared.slots.Gap.{Gap}
use Rattle.hd_open.specs.declared.slots.Hint.{Hint}
use Rattle.hd_open.specs.declared.counts.NodeCounts.{NodeCounts}
use Rattle.hd_open.specs.declared.queue.OpenQueue.{OpenQueue}
use Rattle.hd_open.specs.Totals.{IsBest}
use Rattle.hd_open.specs.Live.{live, nodes_before, IsBestArrival}
use Rattle.hd_open.specs.Counts.{AreCounts}
use Rattle.hd_open.specs.Marks.{AreMarks}
use Rattle.hd_open.specs.Queue.{Has, IsQueued, IsQueueOrderly, IsSingle, IsBelow}
use Rattle.hd_open.specs.Open.{Open, TakesAt, TakesBest}
use Rattle.hd_open.specs.Kept.{open_view, IsOpenListKept}
use Rattle.hd_open.proofs.Places.{live-append, live_get, live-set-none, emptied, best_place}
use Rattle.hd_open.proofs.Queueing.{queued_push, queued_left, queued_back, single_added, below_added}

module _ {A : Type 0} where
  -- a node comes after the others
  pub nodes_push : (slots after : List (Option A)) (nodes : List A) (x : A) → live slots ≡ nodes → after ≡ slots ++ Some x ∷ [] → live after ≡ nodes ++ x ∷ []
  nodes_push slots after nodes x is pushed =
      ap live pushed ∙ (live-append slots (Some x ∷ []) ∙ ap (λ (ns : List A). ns ++ x ∷ []) is)

  -- how many nodes stand before a slot that is emptied
  place_left : (slots : List (Option A)) (i : ℕ) → nodes_before (set slots i None) i ≡ nodes_before slots i
  place_left slots i = ap (λ (xs : List (Option A)). length (live xs)) (take-set-le i slots i None (le i))
    where
      le : (n : ℕ) → n ≤ n
      le n = omega arith

  abbrev gap_at : (A → Option ℕ) → ℕ → A → Gap
  gap_at total i x = record { arrival = i; total = total x }

  module _ (total : A → Option ℕ) where
    -- a node goes
    pub kept_left :
        (slots : List (Option A)) (q : OpenQueue) (d : NodeCounts) (i : ℕ) (x : A) → IsQueued total slots q → IsQueueOrderly q → IsSingle q → IsBelow q (length slots)
        → slice_get slots i ≡ Some (Some x) → AreMarks (set slots i None) d.marks.items → AreCounts (set slots i None) d → IsOpenListKept total (set slots i None) (Some (gap_at total i x)) None q d
    kept_left slots q d i x queued orderly single latest at marked counted = record {
      queued = queued_left total slots q i queued;
      orderly = orderly;
      single = single;
      latest = subst (λ (n : ℕ). IsBelow q n) (sym (length-set slots i None)) latest;
      marked = marked;
      counted = counted;
      empty = λ g is.
          let same = same_Some (gap_at total i x) g is in
          subst (λ (h : Gap). slice_get (set slots i None) h.arrival ≡ Some None) same (emptied slots i x at);
      waiting = λ g is.
          let same = same_Some (gap_at total i x) g is in
          subst (λ (h : Gap). Has q h.total h.arrival) same (queued i x at);
      hinted = _;
    }

    pub taken_at :
        (slots : List (Option A)) (before : Open A) (i place : ℕ) (x : A) → live slots ≡ before.nodes → slice_get slots i ≡ Some (Some x)
        → nodes_before slots i ≡ place → TakesAt total before place x (open_view (set slots i None) (Some (gap_at total i x)))
    taken_at slots before i place x is at stands = record {
      node_is = subst (λ (ns : List A). slice_get ns place ≡ Some x) is (subst (λ (k : ℕ). slice_get (live slots) k ≡ Some x) stands (live_get slots i x at));
      rest = live-set-none slots i x at ∙ (ap (λ (ns : List A). remove ns (nodes_before slots i)) is ∙ ap (remove before.nodes) stands);
      gap = ap (λ (k : ℕ). Some (k, total x)) (place_left slots i ∙ stands);
    }

    pub taken_best :
        (slots : List (Option A)) (before : Open A) (i : ℕ) (x : A) → live slots ≡ before.nodes → slice_get slots i ≡ Some (Some x)
        → IsBestArrival total slots i → TakesBest total before x (open_view (set slots i None) (Some (gap_at total i x)))
    taken_best slots before i x is at best = record {
      place = nodes_before slots i;
      best = subst (λ (ns : List A). IsBest total ns (nodes_before slots i)) is (best_place total slots i best);
      taken = taken_at slots before i (nodes_before slots i) x is at refl;
    }

    -- a node comes back
    pub kept_back :
        (slots : List (Option A)) (g : Gap) (hint : Option Hint) (q : OpenQueue) (c d : NodeCounts) (x : A) → IsOpenListKept total slots (Some g) hint q c → g.total ≡ total x
        → AreMarks (set slots g.arrival (Some x)) d.marks.items → AreCounts (set slots g.arrival (Some x)) d
        → IsOpenListKept total (set slots g.arrival (Some x)) None None q d
    kept_back slots g hint q c d x k same marked counted = record {
      queued = queued_back total slots q g.arrival x g.total k.queued (k.waiting g refl) same;
      orderly = k.orderly;
      single = k.single;
      latest = subst (λ (n : ℕ). IsBelow q n) (sym (length-set slots g.arrival (Some x))) k.latest;
      marked = marked;
      counted = counted;
      empty = λ h is. absurd (cc);
      waiting = λ h is. absurd (cc);
      hinted = _;
    }

    -- a node has come after the others
    pub kept_push :
        (slots after : List (Option A)) (q r : OpenQueue) (d : NodeCounts) (x : A) (t : Option ℕ) (n : ℕ) → t ≡ total x → n ≡ length slots
        → after ≡ slots ++ Some x ∷ [] → IsQueued total slots q → IsSingle q → IsBelow q (length slots) → IsQueueOrderly r → Has r t n
        → ((g : Option ℕ) (k : ℕ) → Has q g k → Has r g k) → ((g : Option ℕ) (k : ℕ) → Has r g k → Has q g k ⊎ ((t ≡ g) × (n ≡ k)))
        → AreMarks after d.marks.items → AreCounts after d → IsOpenListKept total after None None r d
    kept_push slots after q r d x t n at_total at is queued single latest orderly added stays only marked counted = record {
      queued = subst (λ (ys : List (Option A)). IsQueued total ys r) (sym is) (queued_push total slots r x (λ k y here. stays (total y) k (queued k y here)) added_there);
      orderly = orderly;
      single = single_added q r (total x) (length slots) single latest only_there;
      latest = subst (λ (m : ℕ). IsBelow r m) (sym (ap length is ∙ length-append slots (Some x ∷ []))) (below_added q r (total x) (length slots) latest only_there);
      marked = marked;
      counted = counted;
      empty = λ h none. absurd (cc);
      waiting = λ h none. absurd (cc);
      hinted = _;
    }
      where
        added_there : Has r (total x) (length slots)
        added_there = subst (λ (k : ℕ). Has r (total x) k) at (subst (λ (u : Option ℕ). Has r u n) at_total added)

        only_there : (g : Option ℕ) (k : ℕ) → Has r g k → Has q g k ⊎ ((total x ≡ g) × (length slots ≡ k))
        only_there g k has = ⊎_elim (λ old. inl old) (λ new. inr (sym at_total ∙ new.0, sym at ∙ new.1)) (only g k has)
