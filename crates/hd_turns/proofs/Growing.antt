-- What stays true of a book that grows.
use Rattle.std.proofs.Common.{◌≡◌, ℕ, ◌+◌, ◌<◌, ◌≤◌, ◌==◌, nat_lt, Bool, true, false, cond, ◌||◌, Option, Some, None, List, [], ◌∷◌, ◌++◌, length, slice_get, true≢false, refl, sym, ap, ap₂, ◌∙◌, arith}
use Rattle.std.specs.Prelude.{option_and_then}
use Rattle.std.specs.List.{list_any, AllByRecursion}
use Rattle.std.proofs.lemmas.Bool.{ltb-true, lt-ltb, leb-true, le-leb}
use Rattle.std.proofs.lemmas.Option.{none-some}
use Rattle.std.proofs.lemmas.List.Folds.{list_any-append}
use Rattle.hd_base.proofs.Options.{true-from_none}
use Rattle.hd_base.proofs.Tests.{nat_lt-position_or_len}
use Rattle.hd_task.specs.declared.task.Task.{Task}
use Rattle.hd_task.specs.declared.plan.Kid.{Kid}
use Rattle.hd_task.specs.declared.plan.TheConstants.{ROOT_PARENT, ROOT_ACTION}
use Rattle.hd_task.specs.declared.state.State.{State}
use Rattle.hd_task.specs.Plans.{Node, exec, node}
use Rattle.hd_task.specs.Expansions.{bound_of}
use Rattle.hd_task.specs.Entries.{plan_from, plan_of}
use Rattle.hd_task.proofs.Growing.{bound_grows}
use Rattle.hd_hmax.specs.Value.{estimated}
use Rattle.hd_node.specs.declared.batch.By.{By}
use Rattle.hd_node.specs.declared.batch.By.TheVariants.{Entry, Here}
use Rattle.hd_node.specs.declared.batch.Outcome.{Outcome}
use Rattle.hd_node.specs.declared.batch.Outcome.TheVariants.{Expanded, Duplicate, Bounded}
use Rattle.hd_entries.specs.declared.refusal.Refusal.{Refusal}
use Rattle.hd_entries.specs.declared.refusal.Refusal.TheVariants.{StateDiffers, NotDominated, BelowBound}
use Rattle.hd_tables.specs.Kids.{root, same_kid}
use Rattle.hd_entries.specs.Kids.{kids_from, posted_by}
use Rattle.hd_entries.specs.Settling.{BookState, expansions, knows_parent, is_posted, node_of, has_state, is_node, dominates, reaches, node_by}
use Rattle.hd_entries.specs.Holding.{Released}
use Rattle.hd_entries.proofs.Naming.{posted_by-append}
use Rattle.hd_turns.specs.Growth.{Grows}
use Rattle.hd_turns.specs.Worker.{WorkerView}
use Rattle.hd_turns.specs.Truth.{IsTrueParcel, IsUnrefused, AreRight, IsClosedBy, IsSeenOf, IsTrueWorker}
use Rattle.hd_turns.proofs.Lists.{AllByRecursion-weaker, slice_get-append_front}

-- ---- tests

pub is_node-there : (o : Option Node) (s : State) (cost : ℕ) → is_node o s cost ≡ true → (r : Node) × (o ≡ Some r)
is_node-there None s cost e = absurd (true≢false (sym e))
is_node-there (Some r) s cost e = (r, refl)

pub dominates-there : (a r : Option Node) → dominates a r ≡ true → (x : Node) × (y : Node) × (a ≡ Some x) × (r ≡ Some y)
dominates-there None r e = absurd (true≢false (sym e))
dominates-there (Some a) None e = absurd (true≢false (sym e))
dominates-there (Some a) (Some r) e = (a, r, refl, refl)

pub has_state-there : (o : Option Node) (s : State) → has_state o s ≡ true → (r : Node) × (o ≡ Some r)
has_state-there None s e = absurd (true≢false (sym e))
has_state-there (Some r) s e = (r, refl)

-- a test that refuses where it fails passes
pub accepted : (b : Bool) (why : Refusal) → b ≡ true → cond {A = Option Refusal} b None (Some why) ≡ None
accepted b why e = ap (λ (x : Bool). cond {A = Option Refusal} x None (Some why)) e

-- two such tests, one after the other
pub both_passed : (a b : Bool) (x y : Refusal) → cond {A = Option Refusal} a (cond b None (Some x)) (Some y) ≡ None → (a ≡ true) × (b ≡ true)
both_passed true b x y e = (refl, true-from_none b x e)
both_passed false b x y e = absurd (cc)

pub both_accepted : (a b : Bool) (x y : Refusal) → a ≡ true → b ≡ true → cond {A = Option Refusal} a (cond b None (Some x)) (Some y) ≡ None
both_accepted a b x y e f = ap₂ (λ (p q : Bool). cond {A = Option Refusal} p (cond q None (Some x)) (Some y)) e f

-- a bound that is no greater is reached where a bound was
pub reaches_lower :
    (bound lower : Option ℕ) (o : Option Node) (v : Option ℕ) → ((c : ℕ) → bound ≡ Some c → (l : ℕ) × (lower ≡ Some l) × (l ≤ c))
    → reaches bound o v ≡ true → reaches lower o v ≡ true
reaches_lower bound lower o None low e = refl
reaches_lower None lower o (Some v) low e = absurd (true≢false (sym e))
reaches_lower (Some c) lower None (Some v) low e = absurd (true≢false (sym e))
reaches_lower (Some c) lower (Some r) (Some v) low e =
    let l = low c refl in
    let reached : c ≤ r.cost + v = leb-true c (r.cost + v) e in
    ap (λ (b : Option ℕ). reaches b (Some r) (Some v)) l.1 ∙ le-leb l.0 (r.cost + v) (omega (arith, l.2))

-- ---- plans of longer lists

plan_stays : (expanded more : List (List ℕ)) (k : Kid) (p : List ℕ) → plan_of expanded k ≡ Some p → plan_of (expanded ++ more) k ≡ Some p
plan_stays expanded more k p = by (k.parent == ROOT_PARENT)
  where
    from : (o o' : Option (List ℕ)) → ((q : List ℕ) → o ≡ Some q → o' ≡ Some q) → plan_from o k.action ≡ Some p → plan_from o' k.action ≡ Some p
    from None o' h e = absurd (none-some p e)
    from (Some q) o' h e = ap (λ o. plan_from o k.action) (h q refl) ∙ e

    by :
        (b : Bool) → cond b (cond (k.action == ROOT_ACTION) (Some []) None) (plan_from (slice_get expanded k.parent) k.action) ≡ Some p
        → cond b (cond (k.action == ROOT_ACTION) (Some []) None) (plan_from (slice_get (expanded ++ more) k.parent) k.action) ≡ Some p
    by true e = e
    by false e = from (slice_get expanded k.parent) (slice_get (expanded ++ more) k.parent) (λ q is. slice_get-append_front expanded more k.parent q is) e

module _ (b b' : BookState) (g : Grows b b') where
  -- what a plan of the earlier book leads to
  leads_stay :
      (get : List (List ℕ) → Option (List ℕ)) → ((p : List ℕ) → get (expansions b) ≡ Some p → get (expansions b ++ g.more) ≡ Some p) → (r : Node)
      → option_and_then (exec b.task) (get (expansions b)) ≡ Some r → option_and_then (exec b'.task) (get (expansions b')) ≡ Some r
  leads_stay get stays r e =
      elim (get (expansions b)) as (λ o. get (expansions b) ≡ o → option_and_then (exec b.task) o ≡ Some r → option_and_then (exec b'.task) (get (expansions b')) ≡ Some r) [
        | None ↦ λ _ e. absurd (none-some r e)
        | Some p ↦ λ is e.
            ap (λ (t : Task). option_and_then (exec t) (get (expansions b'))) g.same_task
            ∙ (ap (λ (xs : List (List ℕ)). option_and_then (exec b.task) (get xs)) g.tail
            ∙ (ap (option_and_then (exec b.task)) (stays p is) ∙ e))
      ] refl e

  pub node_stays : (k : Kid) (r : Node) → node_of b k ≡ Some r → node_of b' k ≡ Some r
  node_stays k r e = leads_stay (λ xs. plan_of xs k) (λ p is. plan_stays (expansions b) g.more k p is) r e

  pub entry_stays : (n : ℕ) (r : Node) → option_and_then (exec b.task) (slice_get (expansions b) n) ≡ Some r → option_and_then (exec b'.task) (slice_get (expansions b') n) ≡ Some r
  entry_stays n r e = leads_stay (λ xs. slice_get xs n) (λ p is. slice_get-append_front (expansions b) g.more n p is) r e

  pub known_stays : (k : Kid) → knows_parent b k ≡ true → knows_parent b' k ≡ true
  known_stays k e =
      elim (same_kid k root) as (λ x. (x || nat_lt k.parent (length b.entries)) ≡ true → (x || nat_lt k.parent (length b'.entries)) ≡ true) [
        | true ↦ λ e. refl
        | false ↦ λ e. let lt : k.parent < length b.entries = ltb-true k.parent (length b.entries) e in lt-ltb k.parent (length b'.entries) (omega (arith, g.longer))
      ] e

  pub posted_stays : (k : Kid) → is_posted b k ≡ true → is_posted b' k ≡ true
  posted_stays k e =
      nat_lt-position_or_len (same_kid k) (posted_by b'.task (expansions b'))
      ∙ (ap (λ (t : Task). list_any (same_kid k) (posted_by t (expansions b'))) g.same_task
      ∙ (ap (λ (xs : List (List ℕ)). list_any (same_kid k) (posted_by b.task xs)) g.tail
      ∙ (ap (list_any (same_kid k)) (posted_by-append b.task (expansions b) g.more)
      ∙ (list_any-append (same_kid k) (posted_by b.task (expansions b)) (kids_from b.task (length (expansions b)) g.more)
      ∙ ap (λ x. x || list_any (same_kid k) (kids_from b.task (length (expansions b)) g.more))
      (sym (nat_lt-position_or_len (same_kid k) (posted_by b.task (expansions b))) ∙ e)))))

  pub bound_falls : (c : ℕ) → bound_of b.task (expansions b) ≡ Some c → (l : ℕ) × (bound_of b'.task (expansions b') ≡ Some l) × (l ≤ c)
  bound_falls c e =
      let low = bound_grows b.task (expansions b) g.more c e in
      (low.0, ap (λ (t : Task). bound_of t (expansions b')) g.same_task ∙ (ap (bound_of b.task) g.tail ∙ low.1), low.2)

  pub seen_stays : (seen : Option ℕ) → IsSeenOf b seen → IsSeenOf b' seen
  seen_stays None x = tt
  seen_stays (Some limit) x = let l = bound_falls x.0 x.1 in (l.0, l.1, omega (arith, l.2, x.2))

  pub true_stays : (r : Released) → IsTrueParcel b r → IsTrueParcel b' r
  true_stays r x = record { known = known_stays r.kid x.known; posted = posted_stays r.kid x.posted; leads = node_stays r.kid (node r.state r.cost) x.leads }

  -- ---- outcomes

  -- what is named by an entry or by an outcome stays so, where the outcomes that are named do
  pub by_stays : (earlier : List Outcome) (by : By) (r : Node) → node_by b earlier by ≡ Some r → node_by b' earlier by ≡ Some r
  by_stays earlier (Entry n) r e = entry_stays n r e
  by_stays earlier (Here i) r e = e

  -- a duplicate, where what it names is named otherwise
  pub right_moves :
      (earlier earlier' : List Outcome) (by by' : By) (k : Kid) → ((r : Node) → node_by b earlier by ≡ Some r → node_by b' earlier' by' ≡ Some r)
      → IsUnrefused b earlier (Duplicate k by) → IsUnrefused b' earlier' (Duplicate k by')
  right_moves earlier earlier' by by' k moves x =
      let test = true-from_none (dominates (node_by b earlier by) (node_of b k)) NotDominated x.unrefused in
      let are = dominates-there (node_by b earlier by) (node_of b k) test in
      record {
        of_task = tt;
        known = known_stays k x.known;
        posted = posted_stays k x.posted;
        unrefused = accepted (dominates (node_by b' earlier' by') (node_of b' k)) NotDominated
            (ap₂ dominates (moves are.0 are.2 ∙ sym are.2) (node_stays k are.1 are.3 ∙ sym are.3) ∙ test);
      }

  pub right_stays : (earlier : List Outcome) (o : Outcome) → IsUnrefused b earlier o → IsUnrefused b' earlier o
  right_stays earlier (Expanded e) x =
      let test = true-from_none (is_node (node_of b e.kid) e.state e.cost) StateDiffers x.unrefused in
      let at = is_node-there (node_of b e.kid) e.state e.cost test in
      record {
        of_task = x.of_task ∙ sym g.same_task;
        known = known_stays e.kid x.known;
        posted = posted_stays e.kid x.posted;
        unrefused = accepted (is_node (node_of b' e.kid) e.state e.cost) StateDiffers
            (ap (λ (o : Option Node). is_node o e.state e.cost) (node_stays e.kid at.0 at.1 ∙ sym at.1) ∙ test);
      }
  right_stays earlier (Duplicate k by) x = right_moves earlier earlier by by k (λ r e. by_stays earlier by r e) x
  right_stays earlier (Bounded k h) x =
      let bound = bound_of b.task (expansions b) in
      let bound' = bound_of b'.task (expansions b') in
      let tests = both_passed (has_state (node_of b k) h.state) (reaches bound (node_of b k) (estimated h.value)) BelowBound StateDiffers x.unrefused in
      let at = has_state-there (node_of b k) h.state tests.0 in
      let same : node_of b' k ≡ node_of b k = node_stays k at.0 at.1 ∙ sym at.1 in
      record {
        of_task = x.of_task ∙ sym g.same_task;
        known = known_stays k x.known;
        posted = posted_stays k x.posted;
        unrefused = both_accepted (has_state (node_of b' k) h.state) (reaches bound' (node_of b' k) (estimated h.value)) BelowBound StateDiffers
            (ap (λ (o : Option Node). has_state o h.state) same ∙ tests.0)
            (ap (λ (o : Option Node). reaches bound' o (estimated h.value)) same
            ∙ reaches_lower bound bound' (node_of b k) (estimated h.value) bound_falls tests.1);
      }

  pub all_right_stay : (earlier later : List Outcome) → AreRight b earlier later → AreRight b' earlier later
  all_right_stay earlier [] x = tt
  all_right_stay earlier (o ∷ later) x = (right_stays earlier o x.0, all_right_stay (earlier ++ o ∷ []) later x.1)

  pub all_true_stay : (rs : List Released) → AllByRecursion (IsTrueParcel b) rs → AllByRecursion (IsTrueParcel b') rs
  all_true_stay rs x = AllByRecursion-weaker (IsTrueParcel b) (IsTrueParcel b') true_stays rs x

  pub worker_stays : (w : WorkerView) → IsTrueWorker b w → IsTrueWorker b' w
  worker_stays w x = record {
    of_task = x.of_task ∙ sym g.same_task;
    waiting = all_true_stay w.waiting x.waiting;
    numbered = x.numbered;
    outcomes = all_right_stay [] w.outcomes x.outcomes;
    closed = AllByRecursion-weaker (IsClosedBy b w.outcomes) (IsClosedBy b' w.outcomes) (λ c e. by_stays w.outcomes c.by (node c.state c.cost) e) w.closed x.closed;
    outbox = all_true_stay w.outbox x.outbox;
    seen = seen_stays w.seen x.seen;
  }
