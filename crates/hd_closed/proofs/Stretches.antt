-- The states of a stretch, which are estimated together.
use Rattle.std.proofs.Common.{◌≡◌, ℕ, zero, suc, ◌+◌, ◌-◌, ◌<◌, ◌≤◌, List, [], ◌∷◌, Option, Some, take, drop, length, slice_get, IfSome, refl, sym, ap, ◌∙◌, subst, arith, length-take-le, length-drop}
use Rattle.std.specs.Prelude.{slice_range}
use Rattle.hd_task.specs.declared.state.State.{State}
use Rattle.hd_task.specs.declared.task.Task.{Task}
use Rattle.hd_hmax.specs.declared.estimate.EstimateValue.{EstimateValue}
use Rattle.hd_hmax.specs.Rounds.{hmax}
use Rattle.hd_hmax.specs.Value.{estimated}
use Rattle.hd_hmax.specs.Lanes.{IsValueOf}
use Rattle.hd_hmax.proofs.Cheapest.{slice_get_there}

module _ {X : Type 0} where
  get_taken : (n : ℕ) (xs : List X) (i : ℕ) → i < n → slice_get (take n xs) i ≡ slice_get xs i
  get_taken zero xs i lt = absurd (omega (arith, lt))
  get_taken (suc n) [] i lt = refl
  get_taken (suc n) (x ∷ xs) zero lt = refl
  get_taken (suc n) (x ∷ xs) (suc i) lt = get_taken n xs i (omega (arith, lt))

  get_dropped : (xs : List X) (first n : ℕ) → slice_get (drop first xs) n ≡ slice_get xs (first + n)
  get_dropped xs zero n = let e : n ≡ zero + n = omega arith in ap (slice_get xs) e
  get_dropped [] (suc first) n = refl
  get_dropped (x ∷ xs) (suc first) n =
      let e : suc first + n ≡ suc (first + n) = omega arith in
      get_dropped xs first n ∙ sym (ap (slice_get (x ∷ xs)) e)

  -- an element of a stretch
  pub stretch_at : (xs : List X) (first end i : ℕ) → i < end - first → slice_get (slice_range xs first end) i ≡ slice_get xs (first + i)
  stretch_at xs first end i lt = get_taken (end - first) (drop first xs) i lt ∙ get_dropped xs first i

  -- how many it has
  pub stretch_len : (xs : List X) (first end : ℕ) → first ≤ end → end ≤ length xs → length (slice_range xs first end) ≡ end - first
  stretch_len xs first end ordered within = length-take-le (end - first) (drop first xs) (omega (arith, ordered, within, length-drop first xs))

-- the value at a lane is of the state at its place
pub value_at_place :
    (t : Task) (states : List State) (first end place : ℕ) (o : Option EstimateValue) (v : EstimateValue) → first ≤ place → place < end → end ≤ length states
    → ((s : State) → slice_get (slice_range states first end) (place - first) ≡ Some s → IsValueOf t s o) → o ≡ Some v
    → IfSome (slice_get states place) (λ s. estimated v ≡ hmax t s)
value_at_place t states first end place o v from under within values is =
    let there = slice_get_there states place (omega (arith, under, within)) in
    let same : first + (place - first) ≡ place = omega (arith, from) in
    let at : slice_get (slice_range states first end) (place - first) ≡ Some there.0 =
    stretch_at states first end (place - first) (omega (arith, from, under)) ∙ (ap (slice_get states) same ∙ there.1) in
    let value : estimated v ≡ hmax t there.0 = subst (IsValueOf t there.0) is (values there.0 at) in
    subst (λ (u : Option State). IfSome u (λ s. estimated v ≡ hmax t s)) (sym there.1) value
