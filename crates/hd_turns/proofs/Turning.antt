-- Each call of a worker keeps what is true of it.
use Rattle.std.proofs.Common.{◌≡◌, ℕ, ◌+◌, ◌<◌, ◌≤◌, ◌==◌, nat_le, true, Option, Some, None, List, [], ◌∷◌, ◌++◌, map, filter, drop, length, slice_get, ◌⊎◌, refl, sym, ap, ap₂, ◌∙◌, subst, arith, append-nil}
use Rattle.std.specs.List.{AllByRecursion}
use Rattle.std.specs.Bool.{beq}
use Rattle.std.specs.Ordering.{int_eq}
use Rattle.std.specs.Cmp.Lexicographic.{pointwise}
use Rattle.std.specs.Cmp.{booleans_Decides}
use Rattle.std.proofs.lemmas.Bool.{and_from, eq-eqb, le-leb}
use Rattle.std.proofs.lemmas.Bool.Decides.{Decides-int_eq}
use Rattle.std.proofs.lemmas.Slice.Eq.{slice_eq-Decides}
use Rattle.std.proofs.lemmas.Option.{none-some, same_Some}
use Rattle.std.proofs.lemmas.List.{take-append-drop}
use Rattle.hd_base.proofs.Lists.{AllByRecursion-append, AllByRecursion-push, AllByRecursion-slice_get}
use Rattle.hd_task.specs.declared.state.State.{State}
use Rattle.hd_task.specs.declared.plan.TheConstants.{ROOT_PARENT}
use Rattle.hd_task.specs.Plans.{Node, node}
use Rattle.hd_task.specs.Expansions.{bound_of}
use Rattle.hd_task.specs.Covers.{Estimate}
use Rattle.hd_hmax.specs.Rounds.{hmax}
use Rattle.hd_hmax.specs.Value.{estimated}
use Rattle.hd_node.specs.declared.batch.By.{By}
use Rattle.hd_node.specs.declared.batch.By.TheVariants.{Entry, Here}
use Rattle.hd_node.specs.declared.batch.Outcome.{Outcome}
use Rattle.hd_node.specs.declared.batch.Outcome.TheVariants.{Expanded, Duplicate, Bounded}
use Rattle.hd_node.specs.declared.batch.TheConstants.{MAX_OUTCOMES}
use Rattle.hd_entries.specs.declared.refusal.Refusal.TheVariants.{StateDiffers, NotDominated, BelowBound, SettledBefore}
use Rattle.hd_entries.specs.Settling.{BookState, IsBookKept, expansions, knows_parent, is_posted, same_state, has_state, is_node, dominates, reaches, node_of, node_by, expanded_node, first_refusal, all_settled, IsOutcomeOfTask}
use Rattle.hd_entries.specs.Holding.{Released, released_by}
use Rattle.hd_closed.specs.Numbering.{closed_numbered}
use Rattle.hd_turns.specs.Settling.{IsOutcomeOf, Again, Beyond, Anew, closed_by}
use Rattle.hd_turns.specs.Worker.{WorkerView, empty_worker, is_own, is_foreign}
use Rattle.hd_turns.specs.Calls.{with_parcel, with_outcome, ExpandsTo, Expands, ExpandsBest, AtBest, AtNone, ranks, batch_of, after_batch, outcome_numbered, after_numbering, with_room_for, after_releasing, after_sending, after_return, after_seeing, after_closing}
use Rattle.hd_turns.specs.Growth.{Grows}
use Rattle.hd_turns.specs.Truth.{IsTrueParcel, IsUnrefused, AreRight, IsClosedBy, IsAtLeast, IsSeenOf, IsTrueWorker}
use Rattle.hd_turns.proofs.Lists.{AllByRecursion-contains, AllByRecursion-map, AllByRecursion-weaker, AllByRecursion-filter, AllByRecursion-remove, AllByRecursion-rest, slice_get-append_front, slice_get-append_right}
use Rattle.hd_turns.proofs.Growing.{accepted, both_accepted, reaches_lower, all_true_stay, seen_stays}
use Rattle.hd_turns.proofs.Numbering.{all_of_task, settled_or_none, split_right, push_right, grows, all_numbered, closed_after, all_released}

-- ---- expand

same_state-from : (s u : State) → s ≡ u → same_state s u ≡ true
same_state-from s u e =
    and_from (pointwise beq s.atoms u.atoms) (pointwise int_eq s.fluents u.fluents)
    ((slice_eq-Decides {E = beq} booleans_Decides s.atoms u.atoms (pointwise beq s.atoms u.atoms) refl).1 (ap (λ (x : State). x.atoms) e))
    ((slice_eq-Decides {E = int_eq} Decides-int_eq s.fluents u.fluents (pointwise int_eq s.fluents u.fluents) refl).1 (ap (λ (x : State). x.fluents) e))

seen_low : (seen bound : Option ℕ) → IsAtLeast seen bound → (c : ℕ) → seen ≡ Some c → (l : ℕ) × (bound ≡ Some l) × (l ≤ c)
seen_low None bound x c e = absurd (none-some c e)
seen_low (Some limit) bound x c e = let same : limit ≡ c = same_Some limit c e in (x.0, x.1, omega (arith, x.2))

by_front : (b : BookState) (outcomes more : List Outcome) (by : By) (r : Node) → node_by b outcomes by ≡ Some r → node_by b (outcomes ++ more) by ≡ Some r
by_front b outcomes more (Entry n) r e = e
by_front b outcomes more (Here i) r e =
    elim (slice_get outcomes i) as (λ o. slice_get outcomes i ≡ o → expanded_node o ≡ Some r → expanded_node (slice_get (outcomes ++ more) i) ≡ Some r) [
      | None ↦ λ _ e. absurd (none-some r e)
      | Some y ↦ λ is e. ap expanded_node (slice_get-append_front outcomes more i y is) ∙ e
    ] refl e

module _ (b : BookState) (h : Estimate) (w : WorkerView) (x : IsTrueWorker b w) (r : Released) (true_r : IsTrueParcel b r) where
  right_by : (o : Outcome) → IsOutcomeOf b.task h w.closed w.seen r o → IsUnrefused b w.outcomes o
  right_by o (Again c for is) =
      let its : node_by b w.outcomes c.by ≡ Some (node c.state c.cost) = AllByRecursion-contains (IsClosedBy b w.outcomes) w.closed c x.closed for.among in
      subst (IsUnrefused b w.outcomes) (sym is) (record {
        of_task = tt;
        known = true_r.known;
        posted = true_r.posted;
        unrefused = accepted (dominates (node_by b w.outcomes c.by) (node_of b r.kid)) NotDominated
            (ap₂ dominates its true_r.leads
            ∙ and_from (same_state c.state r.state) (nat_le c.cost r.cost) (same_state-from c.state r.state for.same_state) (le-leb c.cost r.cost for.no_dearer));
      })
  right_by o (Beyond e apart beyond is own state value) =
      let bound = bound_of b.task (expansions b) in
      let low : reaches bound (Some (node r.state r.cost)) (h r.state) ≡ true = reaches_lower w.seen bound (Some (node r.state r.cost)) (h r.state) (seen_low w.seen bound x.seen) beyond in
      subst (IsUnrefused b w.outcomes) (sym is) (record {
        of_task = own;
        known = true_r.known;
        posted = true_r.posted;
        unrefused = both_accepted (has_state (node_of b r.kid) e.state) (reaches bound (node_of b r.kid) (estimated e.value)) BelowBound StateDiffers
            (ap (λ (o : Option Node). has_state o e.state) true_r.leads ∙ same_state-from r.state e.state (sym state))
            (ap₂ (λ (o : Option Node) (v : Option ℕ). reaches bound o v) true_r.leads value ∙ low);
      })
  right_by o (Anew e apart beyond is own kid state cost) =
      subst (IsUnrefused b w.outcomes) (sym is) (record {
        of_task = own;
        known = ap (λ k. knows_parent b k) kid ∙ true_r.known;
        posted = ap (λ k. is_posted b k) kid ∙ true_r.posted;
        unrefused = accepted (is_node (node_of b e.kid) e.state e.cost) StateDiffers
            (ap (λ (o : Option Node). is_node o e.state e.cost) (ap (node_of b) kid ∙ true_r.leads)
            ∙ and_from (same_state r.state e.state) (r.cost == e.cost) (same_state-from r.state e.state (sym state)) (eq-eqb r.cost e.cost (sym cost)));
      })

  new_closed : (o : Outcome) → AllByRecursion (IsClosedBy b (w.outcomes ++ o ∷ [])) (closed_by (length w.given + length w.outcomes) o)
  new_closed (Duplicate k by) = tt
  new_closed (Bounded k e) = tt
  new_closed (Expanded e) =
      (ap expanded_node (slice_get-append_right w.outcomes (Expanded e ∷ []) (length w.given + length w.outcomes) 0 (omega (arith, ap length x.numbered))), tt)

  expanded_true : (pick : ℕ) (o : Outcome) → IsOutcomeOf b.task h w.closed w.seen r o → IsTrueWorker b (with_outcome pick o w)
  expanded_true pick o is = record {
    of_task = x.of_task;
    waiting = AllByRecursion-remove (IsTrueParcel b) w.waiting pick x.waiting;
    numbered = x.numbered;
    outcomes = push_right b [] w.outcomes o x.outcomes (right_by o is);
    closed =
        AllByRecursion-append (IsClosedBy b (w.outcomes ++ o ∷ [])) w.closed (closed_by (length w.given + length w.outcomes) o)
        (AllByRecursion-weaker (IsClosedBy b w.outcomes) (IsClosedBy b (w.outcomes ++ o ∷ [])) (λ c y. by_front b w.outcomes (o ∷ []) c.by (node c.state c.cost) y) w.closed x.closed)
        (new_closed o);
    outbox = x.outbox;
    seen = x.seen;
  }

pub expands_true : (b : BookState) (h : Estimate) (pick : ℕ) (w w' : WorkerView) → IsTrueWorker b w → Expands b.task h pick w w' → IsTrueWorker b w'
expands_true b h pick w w' x e =
    elim (slice_get w.waiting pick) as (λ o. slice_get w.waiting pick ≡ o → ExpandsTo b.task h pick w o w' → IsTrueWorker b w') [
      | None ↦ λ _ e. subst (IsTrueWorker b) (sym e) x
      | Some r ↦ λ is e.
          subst (IsTrueWorker b) (sym e.2) (expanded_true b h w x r (AllByRecursion-slice_get (IsTrueParcel b) w.waiting pick r x.waiting is) pick e.0 e.1)
    ] refl e

pub expands_best_true : (b : BookState) (w w' : WorkerView) → IsTrueWorker b w → ExpandsBest b.task w w' → IsTrueWorker b w'
expands_best_true b w w' x (AtBest pick best e) = expands_true b (hmax b.task) pick w w' x e
expands_best_true b w w' x (AtNone none e) = subst (IsTrueWorker b) (sym e) x

-- ---- the other calls

pub empty_true : (b : BookState) (id workers : ℕ) → IsTrueWorker b (empty_worker b.task id workers)
empty_true b id workers = record { of_task = refl; waiting = tt; numbered = refl; outcomes = tt; closed = tt; outbox = tt; seen = tt }

module _ (b : BookState) (w : WorkerView) (x : IsTrueWorker b w) where
  pub taken_true : (r : Released) → IsTrueParcel b r → IsTrueWorker b (with_parcel r w)
  taken_true r t = record {
    of_task = x.of_task;
    waiting = AllByRecursion-push (IsTrueParcel b) w.waiting r x.waiting t;
    numbered = x.numbered;
    outcomes = x.outcomes;
    closed = x.closed;
    outbox = x.outbox;
    seen = x.seen;
  }

  pub roomy_true : (count : ℕ) → IsTrueWorker b (with_room_for count w)
  roomy_true count = record {
    of_task = x.of_task;
    waiting = x.waiting;
    numbered = x.numbered;
    outcomes = x.outcomes;
    closed = x.closed;
    outbox = x.outbox;
    seen = x.seen;
  }

  pub released_true : (rs : List Released) → AllByRecursion (IsTrueParcel b) rs → IsTrueWorker b (after_releasing rs w)
  released_true rs t = record {
    of_task = x.of_task;
    waiting = AllByRecursion-append (IsTrueParcel b) w.waiting (filter (is_own w.id w.workers) rs) x.waiting (AllByRecursion-filter (IsTrueParcel b) (is_own w.id w.workers) rs t);
    numbered = x.numbered;
    outcomes = x.outcomes;
    closed = x.closed;
    outbox =
        AllByRecursion-append (IsTrueParcel b) w.outbox (filter (is_foreign w.id w.workers) rs) x.outbox (AllByRecursion-filter (IsTrueParcel b) (is_foreign w.id w.workers) rs t);
    seen = x.seen;
  }

  pub sent_true : IsTrueWorker b (after_sending w)
  sent_true = record {
    of_task = x.of_task;
    waiting = x.waiting;
    numbered = x.numbered;
    outcomes = x.outcomes;
    closed = x.closed;
    outbox = AllByRecursion-rest (IsTrueParcel b) w.outbox x.outbox;
    seen = x.seen;
  }

  pub sends_true : (r : Released) → slice_get w.outbox 0 ≡ Some r → IsTrueParcel b r
  sends_true r e = AllByRecursion-slice_get (IsTrueParcel b) w.outbox 0 r x.outbox e

  pub returned_true : (r : Released) → IsTrueParcel b r → IsTrueWorker b (after_return r w)
  returned_true r t = record {
    of_task = x.of_task;
    waiting = x.waiting;
    numbered = x.numbered;
    outcomes = x.outcomes;
    closed = x.closed;
    outbox = (t, x.outbox);
    seen = x.seen;
  }

  pub seen_true : (bound : Option ℕ) → IsSeenOf b bound → IsTrueWorker b (after_seeing bound w)
  seen_true bound t = record {
    of_task = x.of_task;
    waiting = x.waiting;
    numbered = x.numbered;
    outcomes = x.outcomes;
    closed = x.closed;
    outbox = x.outbox;
    seen = t;
  }

  pub closed_true : (n : ℕ) (s : State) (cost : ℕ) → node_by b [] (Entry n) ≡ Some (node s cost) → IsTrueWorker b (after_closing n s cost w)
  closed_true n s cost t = record {
    of_task = x.of_task;
    waiting = x.waiting;
    numbered = x.numbered;
    outcomes = x.outcomes;
    closed = AllByRecursion-push (IsClosedBy b w.outcomes) w.closed (record { by = Entry n; state = s; cost = cost }) x.closed t;
    outbox = x.outbox;
    seen = x.seen;
  }

  -- ---- a batch

  batch_right : AreRight b [] (batch_of w) × AreRight b (batch_of w) (drop MAX_OUTCOMES w.outcomes)
  batch_right = split_right b [] (batch_of w) (drop MAX_OUTCOMES w.outcomes) (subst (AreRight b []) (sym (take-append-drop MAX_OUTCOMES w.outcomes)) x.outcomes)

  pub admissible : (first_refusal b [] (batch_of w) ≡ None) ⊎ (first_refusal b [] (batch_of w) ≡ Some SettledBefore)
  admissible = settled_or_none b [] (batch_of w) batch_right.0

  module _ (kept : IsBookKept b) (free : first_refusal b [] (batch_of w) ≡ None) (room : length (all_settled b (batch_of w)).entries < ROOT_PARENT) where
    abbrev batch : List Outcome
    batch = batch_of w

    abbrev rest : List Outcome
    rest = drop MAX_OUTCOMES w.outcomes

    abbrev b' : BookState
    b' = all_settled b batch

    own : AllByRecursion (IsOutcomeOfTask b.task) batch
    own = all_of_task b [] batch batch_right.0

    pub commit_grows : Grows b b'
    commit_grows = grows b.task b.entries b.marks kept batch free own room

    pub commit_releases : AllByRecursion (IsTrueParcel b') (released_by (length b.entries) batch)
    commit_releases = all_released b.task b.entries b.marks kept batch free own room

    pub committed_true : IsTrueWorker b' (after_numbering (length b.entries) (after_batch w))
    committed_true = record {
      of_task = x.of_task ∙ sym commit_grows.same_task;
      waiting = all_true_stay b b' commit_grows w.waiting x.waiting;
      numbered = refl;
      outcomes = all_numbered b.task b.entries b.marks kept batch free own room [] rest (subst (λ (os : List Outcome). AreRight b os rest) (sym (append-nil batch)) batch_right.1);
      closed =
          AllByRecursion-map (IsClosedBy b w.outcomes) (IsClosedBy b' (map (outcome_numbered (length b.entries) (ranks 0 batch)) rest)) (closed_numbered (length b.entries) (ranks 0 batch))
          (λ c y. closed_after b.task b.entries b.marks kept batch free own room rest c (subst (λ (os : List Outcome). IsClosedBy b os c) (sym (take-append-drop MAX_OUTCOMES w.outcomes)) y))
          w.closed x.closed;
      outbox = all_true_stay b b' commit_grows w.outbox x.outbox;
      seen = seen_stays b b' commit_grows w.seen x.seen;
    }
