-- What a worker is after a call, from its parts.
use Rattle.std.proofs.Common.{◌≡◌, ℕ, ◌+◌, Bool, Option, Some, List, [], ◌∷◌, ◌++◌, drop, length, slice_get, sym, ap, ap₂, ◌∙◌, subst}
use Rattle.hd_task.specs.declared.task.Task.{Task}
use Rattle.hd_hmax.specs.Rounds.{hmax}
use Rattle.hd_node.specs.declared.batch.Outcome.{Outcome}
use Rattle.hd_entries.specs.Holding.{Released}
use Rattle.hd_entries.specs.Growing.{successor_count}
use Rattle.hd_node.specs.declared.batch.TheConstants.{MAX_OUTCOMES}
use Rattle.hd_open.specs.Totals.{IsBest}
use Rattle.hd_turns.specs.Settling.{IsOutcomeOf}
use Rattle.hd_turns.specs.Totals.{total_at}
use Rattle.hd_turns.specs.Worker.{WorkerView}
use Rattle.hd_turns.specs.Calls.{ranks, with_room_for, batch_of, after_batch, with_outcome, ExpandsTo, Expands, ExpandsBest, AtBest}
use Rattle.hd_worker.specs.Frontier.{FrontierView, settled_at, SettlesAt, SettlesBest}

-- a worker, from its frontier and the rest of it
abbrev pub worker_by : Task → ℕ → ℕ → List ℕ → List Released → Option ℕ → Bool → FrontierView → List Outcome → WorkerView
worker_by t id workers given outbox seen lent f outcomes = record {
  task = t;
  id = id;
  workers = workers;
  waiting = f.waiting;
  closed = f.closed;
  given = given;
  outcomes = outcomes;
  outbox = outbox;
  seen = seen;
  room = f.room;
  lent = lent;
}

module _ (t : Task) (id workers : ℕ) (given : List ℕ) (outbox : List Released) (seen : Option ℕ) (lent : Bool) (f f' : FrontierView) (outcomes outcomes' : List Outcome) (w : WorkerView) where
  abbrev pub before : WorkerView
  before = worker_by t id workers given outbox seen lent f outcomes

  abbrev pub after : WorkerView
  after = worker_by t id workers given outbox seen lent f' outcomes'

  -- the outcome of the open node at a place stands after the others
  settled_is : (place pick : ℕ) (o : Outcome) → before ≡ w → place ≡ length given + length outcomes → f' ≡ settled_at place pick o f → outcomes' ≡ outcomes ++ o ∷ [] → after ≡ with_outcome pick o w
  settled_is place pick o is named settled more =
      ap₂ (λ (g : FrontierView) (os : List Outcome). worker_by t id workers given outbox seen lent g os) (settled ∙ ap (λ (n : ℕ). settled_at n pick o f) named) more
      ∙ ap (with_outcome pick o) is

  settled_to :
      (place pick : ℕ) (o : Outcome) (u : Task) → before ≡ w → f.task ≡ u → place ≡ length given + length outcomes → outcomes' ≡ outcomes ++ o ∷ []
      → SettlesAt f.task seen place pick f (Some o) f' → Expands u (hmax u) pick w after
  settled_to place pick o u is own named more settles =
      let at : slice_get w.waiting pick ≡ Some settles.0 = ap (λ (x : WorkerView). slice_get x.waiting pick) (sym is) ∙ settles.1 in
      let mine : IsOutcomeOf u (hmax u) f.closed seen settles.0 o = subst (λ (v : Task). IsOutcomeOf v (hmax v) f.closed seen settles.0 o) own settles.2 in
      let its : IsOutcomeOf u (hmax u) w.closed w.seen settles.0 o = subst (λ (x : WorkerView). IsOutcomeOf u (hmax u) x.closed x.seen settles.0 o) is mine in
      subst (λ (r : Option Released). ExpandsTo u (hmax u) pick w r after) (sym at) (o, its, settled_is place pick o is named settles.3 more)

  pub expanded :
      (place pick : ℕ) (o : Outcome) (u : Task) → before ≡ w → f.task ≡ u → place ≡ length given + length outcomes → outcomes' ≡ outcomes ++ o ∷ []
      → SettlesAt f.task seen place pick f (Some o) f' → Expands u (hmax u) pick w after
  expanded = settled_to

  pub expanded_best :
      (place : ℕ) (o : Outcome) (u : Task) → before ≡ w → f.task ≡ u → place ≡ length given + length outcomes → outcomes' ≡ outcomes ++ o ∷ []
      → SettlesBest f.task seen place f (Some o) f' → ExpandsBest u w after
  expanded_best place o u is own named more settles =
      AtBest settles.0
      (subst (λ (x : WorkerView). IsBest (total_at u) x.waiting settles.0) is (subst (λ (v : Task). IsBest (total_at v) f.waiting settles.0) own settles.1))
      (settled_to place settles.0 o u is own named more settles.2)

-- a batch is given, if there is room for its successors
pub batch_given :
    (w v : WorkerView) (given : List ℕ) (outcomes : List Outcome) (kids : ℕ) → v ≡ with_room_for kids w → given ≡ ranks 0 (batch_of w) → outcomes ≡ drop MAX_OUTCOMES w.outcomes
    → kids ≡ successor_count (batch_of w) → record v { given = given; outcomes = outcomes } ≡ after_batch w
batch_given w v given outcomes kids roomy numbers rest all =
    ap (λ (x : WorkerView). let y : WorkerView = record x { given = given; outcomes = outcomes } in y) roomy
    ∙ (ap₂ (λ (ns : List ℕ) (os : List Outcome). let y : WorkerView = record w { given = ns; outcomes = os; room = w.room + kids } in y) numbers rest
    ∙ ap (λ (n : ℕ). let y : WorkerView = record w { given = ranks 0 (batch_of w); outcomes = drop MAX_OUTCOMES w.outcomes; room = w.room + n } in y) all)
