-- How an open node is settled. (HDA*, Kishimoto, Fukunaga and Botea 2013: duplicate detection,
-- pruning and expansion.)
use Rattle.std.specs.Prelude.{◌≡◌, ℕ, Bool, true, false, List, [], ◌∷◌, Option, Some}
use Rattle.hd_task.specs.declared.task.Task.{Task}
use Rattle.hd_task.specs.Plans.{node}
use Rattle.hd_task.specs.Covers.{Estimate}
use Rattle.hd_hmax.specs.Estimate.{EstimateView}
use Rattle.hd_hmax.specs.Value.{estimated}
use Rattle.hd_node.specs.declared.batch.By.TheVariants.{Here}
use Rattle.hd_node.specs.declared.batch.Outcome.{Outcome}
use Rattle.hd_node.specs.declared.batch.Outcome.TheVariants.{Expanded, Duplicate, Bounded}
use Rattle.hd_node.specs.Expansion.{ExpansionView}
use Rattle.hd_entries.specs.Settling.{reaches}
use Rattle.hd_entries.specs.Holding.{Released}
use Rattle.hd_closed.specs.Closed.{Closed, IsClosedAt, IsDearer}

-- the bound that was seen last, or an infinite estimate, says that a parcel leads to nothing better
abbrev pub is_beyond : Estimate → Option ℕ → Released → Bool
is_beyond h seen r = reaches seen (Some (node r.state r.cost)) (h r.state)

-- the outcome of an open node: a duplicate by an expansion of the closed list; if there is none,
-- bounded by the bound that was seen last or by an infinite estimate; else its expansion
pub data IsOutcomeOf (t : Task) (h : Estimate) (closed : List Closed) (seen : Option ℕ) (r : Released) (o : Outcome) : Type 0 where
  Again : (c : Closed) → IsClosedAt closed r.state r.cost c → o ≡ Duplicate r.kid c.by → IsOutcomeOf t h closed seen r o
  Beyond :
      (e : EstimateView) → IsDearer closed r.state r.cost → is_beyond h seen r ≡ true
      → o ≡ Bounded r.kid e → e.task ≡ t → e.state ≡ r.state → estimated e.value ≡ h r.state → IsOutcomeOf t h closed seen r o
  Anew :
      (e : ExpansionView) → IsDearer closed r.state r.cost → is_beyond h seen r ≡ false
      → o ≡ Expanded e → e.task ≡ t → e.kid ≡ r.kid → e.state ≡ r.state → e.cost ≡ r.cost → IsOutcomeOf t h closed seen r o

-- what an outcome closes, if it is an expansion: it is named by the outcome's place
abbrev pub closed_by : ℕ → Outcome → List Closed
closed_by place (Expanded e) = record { by = Here place; state = e.state; cost = e.cost } ∷ []
closed_by place (Duplicate k by) = []
closed_by place (Bounded k e) = []
