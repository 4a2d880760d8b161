-- The states at given places, which are estimated together.
use Rattle.std.proofs.Common.{◌≡◌, ℕ, zero, suc, ◌-◌, ◌<◌, List, [], ◌∷◌, Option, Some, take, drop, length, slice_get, get_or, IfSome, sym, ap, ◌∙◌, subst}
use Rattle.std.specs.List.{AllByRecursion}
use Rattle.std.specs.Prelude.{option_map, slice_range}
use Rattle.std.proofs.lemmas.Option.{slice_get-map, get_or_from_slice_get}
use Rattle.hd_task.specs.declared.state.State.{State}
use Rattle.hd_task.specs.declared.task.Task.{Task}
use Rattle.hd_task.specs.Plans.{IsStateOf}
use Rattle.hd_base.proofs.Lists.{AllByRecursion-slice_get}
use Rattle.hd_hmax.specs.declared.estimate.EstimateValue.{EstimateValue}
use Rattle.hd_hmax.specs.Rounds.{hmax}
use Rattle.hd_hmax.specs.Value.{estimated}
use Rattle.hd_hmax.specs.Lanes.{IsValueOf}
use Rattle.hd_hmax.proofs.Cheapest.{slice_get_there}
use Rattle.hd_closed.specs.Picked.{states_at}

abbrev nothing : State
nothing = record { atoms = []; fluents = [] }

-- the state of a lane stands at its place
pub picked_at :
    (states : List State) (places : List ℕ) (lane place : ℕ) (s : State) → slice_get places lane ≡ Some place → slice_get states place ≡ Some s
    → slice_get (states_at states places) lane ≡ Some s
picked_at states places lane place s at there =
    let state_of : ℕ → State = λ p. get_or states p nothing in
    slice_get-map state_of places lane
    ∙ (ap (option_map state_of) at ∙ ap (λ (x : State). Some x) (get_or_from_slice_get states place s nothing there))

-- the value at a lane is of the state at its place
pub value_at_lane :
    (t : Task) (states : List State) (places : List ℕ) (lane place : ℕ) (o : Option EstimateValue) (v : EstimateValue)
    → AllByRecursion (λ k. k < length states) places → slice_get places lane ≡ Some place
    → ((s : State) → slice_get (states_at states places) lane ≡ Some s → IsValueOf t s o) → o ≡ Some v
    → IfSome (slice_get states place) (λ s. estimated v ≡ hmax t s)
value_at_lane t states places lane place o v within at values is =
    let there = slice_get_there states place (AllByRecursion-slice_get (λ k. k < length states) places lane place within at) in
    let value : estimated v ≡ hmax t there.0 = subst (IsValueOf t there.0) is (values there.0 (picked_at states places lane place there.0 at there.1)) in
    subst (λ (u : Option State). IfSome u (λ s. estimated v ≡ hmax t s)) (sym there.1) value

-- the states are of the task, where all are
pub all_picked : (t : Task) (states : List State) (places : List ℕ) → AllByRecursion (IsStateOf t) states → AllByRecursion (λ k. k < length states) places → AllByRecursion (IsStateOf t) (states_at states places)
all_picked t states [] own within = tt
all_picked t states (place ∷ places) own within =
    let there = slice_get_there states place within.0 in
    let is : get_or states place nothing ≡ there.0 = get_or_from_slice_get states place there.0 nothing there.1 in
    (subst (IsStateOf t) (sym is) (AllByRecursion-slice_get (IsStateOf t) states place there.0 own there.1), all_picked t states places own within.1)

module _ {X : Type 0} (P : X → Type 0) where
  all_dropped : (n : ℕ) (xs : List X) → AllByRecursion P xs → AllByRecursion P (drop n xs)
  all_dropped zero xs h = h
  all_dropped (suc n) [] h = tt
  all_dropped (suc n) (x ∷ xs) h = all_dropped n xs h.1

  all_taken : (n : ℕ) (xs : List X) → AllByRecursion P xs → AllByRecursion P (take n xs)
  all_taken zero xs h = tt
  all_taken (suc n) [] h = tt
  all_taken (suc n) (x ∷ xs) h = (h.0, all_taken n xs h.1)

  -- what holds of all holds of those in a range
  pub all_ranged : (xs : List X) (first end : ℕ) → AllByRecursion P xs → AllByRecursion P (slice_range xs first end)
  all_ranged xs first end h = all_taken (end - first) (drop first xs) (all_dropped first xs h)
