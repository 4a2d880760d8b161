-- When what a worker holds is true of a book. (Our own.)
use Rattle.std.specs.Prelude.{◌≡◌, ℕ, ◌≤◌, true, List, [], ◌∷◌, ◌++◌, Option, Some, None}
use Rattle.std.specs.List.{AllByRecursion}
use Rattle.hd_task.specs.Plans.{node}
use Rattle.hd_task.specs.Expansions.{bound_of}
use Rattle.hd_node.specs.declared.batch.Outcome.{Outcome}
use Rattle.hd_node.specs.Outcome.{kid_of}
use Rattle.hd_entries.specs.Settling.{BookState, expansions, knows_parent, is_posted, node_of, node_by, refusal_by, IsOutcomeOfTask}
use Rattle.hd_entries.specs.Holding.{Released}
use Rattle.hd_closed.specs.Closed.{Closed}
use Rattle.hd_turns.specs.Worker.{WorkerView}

-- a parcel is of a successor of the book, with the state and the cost that its plan leads to
pub record IsTrueParcel (b : BookState) (r : Released) : Type 0 where
  pub known : knows_parent b r.kid ≡ true
  pub posted : is_posted b r.kid ≡ true
  pub leads : node_of b r.kid ≡ Some (node r.state r.cost)

-- an outcome, after earlier ones of its batch, is refused for nothing but that its successor is
-- settled
pub record IsUnrefused (b : BookState) (earlier : List Outcome) (o : Outcome) : Type 0 where
  pub of_task : IsOutcomeOfTask b.task o
  pub known : knows_parent b (kid_of o) ≡ true
  pub posted : is_posted b (kid_of o) ≡ true
  pub unrefused : refusal_by b earlier o ≡ None

-- each of some outcomes is right, after earlier ones and those before it
abbrev pub AreRight : BookState → List Outcome → List Outcome → Type 0
AreRight b earlier [] = Unit {0}
AreRight b earlier (o ∷ later) = IsUnrefused b earlier o × AreRight b (earlier ++ o ∷ []) later

-- an expansion of the closed list is the entry or the outcome that is named, with this state and
-- cost
abbrev pub IsClosedBy : BookState → List Outcome → Closed → Type 0
IsClosedBy b outcomes c = node_by b outcomes c.by ≡ Some (node c.state c.cost)

-- a bound is at least another, or there is none
abbrev pub IsAtLeast : Option ℕ → Option ℕ → Type 0
IsAtLeast None bound = Unit {0}
IsAtLeast (Some limit) bound = (c : ℕ) × (bound ≡ Some c) × (c ≤ limit)

-- a bound is at least the book's
abbrev pub IsSeenOf : BookState → Option ℕ → Type 0
IsSeenOf b seen = IsAtLeast seen (bound_of b.task (expansions b))

-- all that a worker holds is true of a book, and the batch that it gave last is numbered
pub record IsTrueWorker (b : BookState) (w : WorkerView) : Type 0 where
  pub of_task : w.task ≡ b.task
  pub waiting : AllByRecursion (IsTrueParcel b) w.waiting
  pub numbered : w.given ≡ []
  pub outcomes : AreRight b [] w.outcomes
  pub closed : AllByRecursion (IsClosedBy b w.outcomes) w.closed
  pub outbox : AllByRecursion (IsTrueParcel b) w.outbox
  pub seen : IsSeenOf b w.seen
