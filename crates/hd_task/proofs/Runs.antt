-- Executions: their ends are states of the task, costs only rise, and what follows a state is the
-- same at any cost.
use Rattle.std.proofs.Common.{◌≡◌, ℕ, ◌+◌, ◌-◌, ◌<◌, ◌≤◌, Bool, true, false, cond, List, [], ◌∷◌, ◌++◌, length, slice_get, Option, Some, None, refl, sym, ap, ◌∙◌, subst, arith}
use Rattle.std.specs.Prelude.{option_and_then}
use Rattle.std.proofs.lemmas.Option.{none-some, same_Some, slice_get_within}
use Rattle.std.proofs.lemmas.List.FromFn.{length-map-range_with_len}
use Rattle.hd_task.specs.declared.state.State.{State}
use Rattle.hd_task.specs.declared.action.Action.{Action}
use Rattle.hd_task.specs.declared.task.Task.{Task}
use Rattle.hd_task.specs.Conditions.{holds}
use Rattle.hd_task.specs.Effects.{atom_after, value_after, effect_on, state_after, step_cost}
use Rattle.hd_task.specs.Plans.{IsStateOf, Node, after_step, step, step_of, step_by, exec_from, start, exec}

-- ---- lists of steps

pub exec_from-none : (t : Task) (p : List ℕ) → exec_from t None p ≡ None
exec_from-none t [] = refl
exec_from-none t (n ∷ p) = exec_from-none t p

pub exec_from-append : (t : Task) (r : Option Node) (p q : List ℕ) → exec_from t r (p ++ q) ≡ exec_from t (exec_from t r p) q
exec_from-append t r [] q = refl
exec_from-append t r (n ∷ p) q = exec_from-append t (option_and_then (λ r. step_by t r n) r) p q

-- a plan and one more step
pub exec-push : (t : Task) (p : List ℕ) (r : Node) (n : ℕ) → exec t p ≡ Some r → exec t (p ++ n ∷ []) ≡ step_by t r n
exec-push t p r n e =
    exec_from-append t (Some (start t)) p (n ∷ []) ∙ ap (λ r. option_and_then (λ r. step_by t r n) r) e

-- a step is of an action that the task has
pub step_within : (t : Task) (r : Node) (n : ℕ) (to : Node) → step_by t r n ≡ Some to → n < length t.actions
unfolding step_by
step_within t r n to e =
    elim (slice_get t.actions n) as (λ o. slice_get t.actions n ≡ o → step_of t r o ≡ Some to → n < length t.actions) [
      | None ↦ λ _ e. absurd (none-some to e)
      | Some a ↦ λ is _. slice_get_within t.actions n a is
    ] refl e

-- ---- ends of steps

-- what holds of the end of a step
record IsAfter (t : Task) (r to : Node) : Type 0 where
  state : IsStateOf t to.state
  dearer : r.cost ≤ to.cost

state_after-of : (t : Task) (s : State) (a : Action) → IsStateOf t (state_after t s a)
unfolding state_after
state_after-of t s a = record {
  atoms = length-map-range_with_len (atom_after s a) 0 (length t.atoms);
  fluents = length-map-range_with_len (λ j. value_after s.fluents j (effect_on a j)) 0 (length t.fluents);
}

after_end : (t : Task) (r : Node) (a : Action) (c : Option ℕ) (to : Node) → after_step t r a c ≡ Some to → IsAfter t r to
after_end t r a None to e = absurd (none-some to e)
after_end t r a (Some c) to e =
    let is : record { state = state_after t r.state a; cost = r.cost + c } ≡ to = same_Some _ to e in
    subst (IsAfter t r) is (record { state = state_after-of t r.state a; dearer = omega arith })

tested_end : (t : Task) (r : Node) (a : Action) (h : Bool) (c : Option ℕ) (to : Node) → cond h (after_step t r a c) None ≡ Some to → IsAfter t r to
tested_end t r a true c to e = after_end t r a c to e
tested_end t r a false c to e = absurd (none-some to e)

action_end : (t : Task) (r : Node) (o : Option Action) (to : Node) → step_of t r o ≡ Some to → IsAfter t r to
unfolding step
action_end t r None to e = absurd (none-some to e)
action_end t r (Some a) to e = tested_end t r a (holds r.state a.condition) (step_cost t r.state a) to e

step_end : (t : Task) (r : Node) (n : ℕ) (to : Node) → step_by t r n ≡ Some to → IsAfter t r to
unfolding step_by
step_end t r n to e = action_end t r (slice_get t.actions n) to e

-- steps lead to states of the task
pub exec_from-state : (t : Task) (p : List ℕ) (r to : Node) → IsStateOf t r.state → exec_from t (Some r) p ≡ Some to → IsStateOf t to.state
exec_from-state t [] r to of e = subst (λ (x : Node). IsStateOf t x.state) (same_Some r to e) of
exec_from-state t (n ∷ p) r to of e =
    elim (step_by t r n) as (λ o. step_by t r n ≡ o → exec_from t o p ≡ Some to → IsStateOf t to.state) [
      | None ↦ λ _ e. absurd (none-some to (sym (exec_from-none t p) ∙ e))
      | Some mid ↦ λ is e. exec_from-state t p mid to (step_end t r n mid is).state e
    ] refl e

-- a plan leads to a state of the task
pub exec-state : (t : Task) (p : List ℕ) (r : Node) → exec t p ≡ Some r → IsStateOf t r.state
unfolding start
exec-state t p r e = exec_from-state t p (start t) r (record { atoms = t.start_atoms; fluents = t.start_fluents }) e

-- steps never make a plan cheaper
pub exec_from-dearer : (t : Task) (p : List ℕ) (r to : Node) → exec_from t (Some r) p ≡ Some to → r.cost ≤ to.cost
exec_from-dearer t [] r to e = subst (λ (x : Node). r.cost ≤ x.cost) (same_Some r to e) (omega arith)
exec_from-dearer t (n ∷ p) r to e =
    elim (step_by t r n) as (λ o. step_by t r n ≡ o → exec_from t o p ≡ Some to → r.cost ≤ to.cost) [
      | None ↦ λ _ e. absurd (none-some to (sym (exec_from-none t p) ∙ e))
      | Some mid ↦ λ is e. omega (arith, (step_end t r n mid is).dearer, exec_from-dearer t p mid to e)
    ] refl e

-- ---- from one state at two costs

-- one node has the other's state, and costs so much less
record IsBelow (d : ℕ) (less more : Node) : Type 0 where
  state : less.state ≡ more.state
  cost : less.cost + d ≡ more.cost

-- both are there, and one is so much below the other; or neither is there
abbrev AreBelow : ℕ → Option Node → Option Node → Type 0
AreBelow d None None = Unit {0}
AreBelow d None (Some more) = ⊥
AreBelow d (Some less) None = ⊥
AreBelow d (Some less) (Some more) = IsBelow d less more

-- what follows from one state does not depend on the cost so far, and costs the same
module _ (t : Task) (d : ℕ) where
  after_below : (less more : Node) (a : Action) (c c' : Option ℕ) → IsBelow d less more → c ≡ c' → AreBelow d (after_step t less a c) (after_step t more a c')
  after_below less more a None c' k same = subst (λ (o : Option ℕ). AreBelow d None (after_step t more a o)) same tt
  after_below less more a (Some n) c' k same =
      let costs : less.cost + n + d ≡ more.cost + n = omega (arith, k.cost) in
      subst (λ (o : Option ℕ). AreBelow d (after_step t less a (Some n)) (after_step t more a o)) same
      (record { state = ap (λ s. state_after t s a) k.state; cost = costs })

  if_below : (b b' : Bool) (less more : Option Node) → b ≡ b' → AreBelow d less more → AreBelow d (cond b less None) (cond b' more None)
  if_below true b' less more same k = subst (λ b. AreBelow d less (cond b more None)) same k
  if_below false b' less more same k = subst (λ b. AreBelow d None (cond b more None)) same tt

  action_below : (less more : Node) (o : Option Action) → IsBelow d less more → AreBelow d (step_of t less o) (step_of t more o)
  unfolding step
  action_below less more None k = tt
  action_below less more (Some a) k =
      if_below (holds less.state a.condition) (holds more.state a.condition)
      (after_step t less a (step_cost t less.state a)) (after_step t more a (step_cost t more.state a))
      (ap (λ s. holds s a.condition) k.state)
      (after_below less more a (step_cost t less.state a) (step_cost t more.state a) k (ap (λ s. step_cost t s a) k.state))

  step_below : (less more : Node) (n : ℕ) → IsBelow d less more → AreBelow d (step_by t less n) (step_by t more n)
  unfolding step_by
  step_below less more n k = action_below less more (slice_get t.actions n) k

  exec_below : (p : List ℕ) (less more : Option Node) → AreBelow d less more → AreBelow d (exec_from t less p) (exec_from t more p)
  exec_below [] less more k = k
  exec_below (n ∷ p) None None k = exec_below p None None tt
  exec_below (n ∷ p) None (Some more) k = absurd k
  exec_below (n ∷ p) (Some less) None k = absurd k
  exec_below (n ∷ p) (Some less) (Some more) k = exec_below p (step_by t less n) (step_by t more n) (step_below less more n k)

-- an end with the same state that costs no more
pub record EndsNoDearer (o : Option Node) (than : Node) : Type 0 where
  pub end : Node
  pub is : o ≡ Some end
  pub same : end.state ≡ than.state
  pub cost : end.cost ≤ than.cost

end_below : (d : ℕ) (o : Option Node) (to : Node) → AreBelow d o (Some to) → EndsNoDearer o to
end_below d None to k = absurd k
end_below d (Some end) to k = record { end = end; is = refl; same = k.state; cost = omega (arith, k.cost) }

-- the same steps from the same state at no greater cost end in the same state at no greater cost
pub exec_from-cheaper : (t : Task) (p : List ℕ) (more less to : Node) → less.state ≡ more.state → less.cost ≤ more.cost → exec_from t (Some more) p ≡ Some to → EndsNoDearer (exec_from t (Some less) p) to
exec_from-cheaper t p more less to same no_dearer ends =
    let d = more.cost - less.cost in
    let costs : less.cost + d ≡ more.cost = omega (arith, no_dearer) in
    let below = exec_below t d p (Some less) (Some more) (record { state = same; cost = costs }) in
    end_below d (exec_from t (Some less) p) to (subst (AreBelow d (exec_from t (Some less) p)) ends below)
