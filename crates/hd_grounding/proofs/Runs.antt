-- Plans of the task and their instances: both are executed or neither is, and what they lead to
-- goes along.
use Rattle.std.proofs.Common.{◌≡◌, ℕ, List, [], ◌∷◌, All, Option, Some, None, slice_get, refl, sym, ap, ap₂, ◌∙◌, subst}
use Rattle.std.specs.Prelude.{option_and_then, option_map, pos}
use Rattle.std.specs.List.{cons_option, AllByRecursion}
use Rattle.std.proofs.lemmas.List.Elements.{All-nil, All-cons, All-head, All-tail}
use Rattle.std.proofs.lemmas.Option.{none-some}
use Rattle.hd_lifted.specs.declared.task.LiftedTask.{LiftedTask}
use Rattle.hd_lifted.specs.declared.instance.Instance.{Instance}
use Rattle.hd_lifted.specs.States as domain
use Rattle.hd_lifted.specs.Conditions as meaning
use Rattle.hd_lifted.specs.Steps as lifted_step
use Rattle.hd_lifted.specs.Steps.{Reached}
use Rattle.hd_lifted.specs.Plans as lifted
use Rattle.hd_lifted.specs.Plans.{IsInstance}
use Rattle.hd_task.specs.declared.form.GroundForm.{GroundForm}
use Rattle.hd_task.specs.declared.action.Action.{Action}
use Rattle.hd_task.specs.declared.task.Task.{Task}
use Rattle.hd_task.specs.Conditions.{holds}
use Rattle.hd_task.specs.Plans.{Node, step_of, step_by, exec_from, start, exec, IsValidAt}
use Rattle.hd_task.proofs.Runs.{exec_from-none}
use Rattle.hd_lifted.specs.Kept.{IsKept}
use Rattle.hd_lifted.proofs.Sound.{exec-kept}
use Rattle.hd_grounding.specs.Grounding.{IsActionOf, IsGrounding}
use Rattle.hd_grounding.proofs.Grounded.{instance_kept, action_kept, kept_action, starts_agree, goal_numbered}
use Rattle.hd_grounding.proofs.Holding.{condition_agrees}
use Rattle.hd_grounding.specs.Instances.{instance_of, instances_of, IsOfValidPlan}
use Rattle.hd_grounding.specs.Runs.{Correspond, LeadsThere, IsOfPlan}
use Rattle.hd_grounding.proofs.Steps.{IsAlong, AreAlike, step_alike}

-- a number names an action of the task
abbrev pub IsNamed : Task → ℕ → Type 0
IsNamed u n = (b : Action) × (slice_get u.actions n ≡ Some b)

module _ (t : LiftedTask) (u : Task) (made : IsGrounding t u) where
  -- ---- actions and instances

  pub instance_is : (i : Instance) (b : Action) → IsActionOf t made.atoms made.fluents i b → instance_of b ≡ i
  instance_is i b of = ap (λ (f : GroundForm). let x : Instance = record { schema = f.symbol; objects = f.objects } in x) of.form

  pub plan_of-named : (n : ℕ) (b : Action) (p : List ℕ) → slice_get u.actions n ≡ Some b → instances_of u (n ∷ p) ≡ instance_of b ∷ instances_of u p
  plan_of-named n b p at = ap (λ o. cons_option (option_map instance_of o) (instances_of u p)) at

  -- ---- at first

  pub starts_alike : IsAlong t u made (lifted_step.start t) (start u)
  unfolding lifted_step.start start domain.initial_state
  starts_alike = record { agree = starts_agree t u made; first = λ g _. refl; cost = refl }

  -- ---- a step

  named_alike : (r : Reached) (m : Node) (n : ℕ) (b : Action) → IsAlong t u made r m → slice_get u.actions n ≡ Some b
      → AreAlike t u made (lifted.step_by t r (instance_of b)) (step_by u m n)
  unfolding lifted.step_by step_by
  named_alike r m n b along at =
      let from = kept_action t u made n b at in
      let of = from.2 in
      let own : lifted.step_by t r (instance_of b) ≡ lifted_step.step t r of.schema from.0.objects =
      ap (lifted.step_by t r) (instance_is from.0 b of) ∙ ap (λ o. lifted.step_of t r o from.0.objects) of.is_schema in
      let other : step_by u m n ≡ step_of u m (Some b) = ap (step_of u m) at in
      subst (λ o. AreAlike t u made (lifted.step_by t r (instance_of b)) o) (sym other)
      (subst (λ o. AreAlike t u made o (step_of u m (Some b))) (sym own) (step_alike t u made r m from.0 b along from.1 of))

  next_alike : (o : Option Reached) (q : Option Node) (n : ℕ) (b : Action) → AreAlike t u made o q → slice_get u.actions n ≡ Some b
      → AreAlike t u made (option_and_then (λ r. lifted.step_by t r (instance_of b)) o) (option_and_then (λ m. step_by u m n) q)
  next_alike None None n b alike at = tt
  next_alike None (Some m) n b alike at = absurd alike
  next_alike (Some r) None n b alike at = absurd alike
  next_alike (Some r) (Some m) n b along at = named_alike r m n b along at

  -- ---- plans

  from_alike : (p : List ℕ) (o : Option Reached) (q : Option Node) → AllByRecursion (IsNamed u) p → AreAlike t u made o q
      → AreAlike t u made (lifted.exec_from t o (instances_of u p)) (exec_from u q p)
  from_alike [] o q named alike = alike
  from_alike (n ∷ p) o q named alike =
      let b = named.0.0 in
      let rest = from_alike p (option_and_then (λ r. lifted.step_by t r (instance_of b)) o) (option_and_then (λ m. step_by u m n) q) named.1
      (next_alike o q n b alike named.0.1) in
      subst (λ is. AreAlike t u made (lifted.exec_from t o is) (exec_from u q (n ∷ p))) (sym (plan_of-named n b p named.0.1)) rest

  pub runs_alike : (p : List ℕ) → AllByRecursion (IsNamed u) p → AreAlike t u made (lifted.exec t (instances_of u p)) (exec u p)
  runs_alike p named = from_alike p (Some (lifted_step.start t)) (Some (start u)) named starts_alike

  nowhere : (n : ℕ) (q : Option Node) → slice_get u.actions n ≡ None → option_and_then (λ m. step_by u m n) q ≡ None
  unfolding step_by
  nowhere n None none = refl
  nowhere n (Some m) none = ap (step_of u m) none

  -- a plan that is executed names actions
  pub all_named : (p : List ℕ) (q : Option Node) (to : Node) → exec_from u q p ≡ Some to → AllByRecursion (IsNamed u) p
  all_named [] q to e = tt
  all_named (n ∷ p) q to e =
      elim (slice_get u.actions n) as (λ o. slice_get u.actions n ≡ o → AllByRecursion (IsNamed u) (n ∷ p)) [
        | None ↦ λ none. absurd (none-some to (sym (ap (λ q. exec_from u q p) (nowhere n q none) ∙ exec_from-none u p) ∙ e))
        | Some b ↦ λ at. ((b, at), all_named p (option_and_then (λ m. step_by u m n) q) to e)
      ] refl

  -- ---- what goes along

  pub other_end : (o : Option Reached) (m : Node) → AreAlike t u made o (Some m) → (r : Reached) × (o ≡ Some r) × IsAlong t u made r m
  other_end None m alike = absurd alike
  other_end (Some r) m along = (r, refl, along)

  own_end : (r : Reached) (q : Option Node) → AreAlike t u made (Some r) q → (m : Node) × (q ≡ Some m) × IsAlong t u made r m
  own_end r None alike = absurd alike
  own_end r (Some m) along = (m, refl, along)

  pub end_along : (p : List ℕ) (m : Node) → exec u p ≡ Some m → (r : Reached) × (lifted.exec t (instances_of u p) ≡ Some r) × IsAlong t u made r m
  end_along p m e =
      other_end (lifted.exec t (instances_of u p)) m
      (subst (AreAlike t u made (lifted.exec t (instances_of u p))) e (runs_alike p (all_named p (Some (start u)) m e)))

  goals_alike : (r : Reached) (m : Node) → Correspond made r m → meaning.holds r.state [] t.goal ≡ holds m.state u.goal
  goals_alike r m same =
      condition_agrees made.atoms made.fluents r.state m.state same.states [] t.goal (goal_numbered t u made) ∙ ap (holds m.state) (sym made.goal_is)

  correspond : (r : Reached) (m : Node) → IsAlong t u made r m → Correspond made r m
  correspond r m along = record { states = along.agree; costs = along.cost }

  -- ---- there

  instances : (p : List ℕ) → AllByRecursion (IsNamed u) p → All (IsInstance t) (instances_of u p)
  instances [] named = All-nil (IsInstance t)
  instances (n ∷ p) named =
      let b = named.0.0 in
      let from = kept_action t u made n b named.0.1 in
      subst (All (IsInstance t)) (sym (plan_of-named n b p named.0.1))
      (All-cons (IsInstance t) (instance_of b) (instances_of u p)
      (subst (IsInstance t) (sym (instance_is from.0 b from.2)) (instance_kept t from.0 from.1)) (instances p named.1))

  pub run_there : (p : List ℕ) (m : Node) → exec u p ≡ Some m → LeadsThere made p m
  run_there p m e =
      let k = end_along p m e in
      record { instances = instances p (all_named p (Some (start u)) m e); end = k.0; executes = k.1; correspond = correspond k.0 m k.2 }

  pub valid_there : (p : List ℕ) (c : ℕ) → IsValidAt u p c → lifted.IsValidAt t (instances_of u p) (pos c)
  valid_there p c v =
      let k = run_there p v.end v.executes in
      record {
        valid = record {
          instances = k.instances;
          end = k.end;
          executes = k.executes;
          meets_goal = goals_alike k.end v.end k.correspond ∙ v.meets_goal;
        };
        costs = k.correspond.costs ∙ ap (λ n. Some (pos n)) v.costs;
      }

  -- ---- back

  -- numbers of actions whose instances these are
  record IsNumberedPlan (q : List Instance) : Type 0 where
    plan : List ℕ
    is : instances_of u plan ≡ q
    named : AllByRecursion (IsNamed u) plan

  numbers : (q : List Instance) → All (IsKept t) q → IsNumberedPlan q
  numbers [] kept = record { plan = []; is = refl; named = tt }
  numbers (i ∷ q) kept =
      let act = action_kept t u made i (All-head (IsKept t) i q kept) in
      let rest = numbers q (All-tail (IsKept t) i q kept) in
      record {
        plan = act.0 ∷ rest.plan;
        is = plan_of-named act.0 act.1 rest.plan act.2 ∙ ap₂ (λ x xs. x ∷ xs) (instance_is i act.1 act.3) rest.is;
        named = ((act.1, act.2), rest.named);
      }

  pub run_back : (q : List Instance) (r : Reached) → All (IsInstance t) q → lifted.exec t q ≡ Some r → IsOfPlan made q r
  run_back q r all e =
      let k = numbers q (exec-kept t q r all e) in
      let alike = subst (λ o. AreAlike t u made o (exec u k.plan)) (ap (lifted.exec t) k.is ∙ e) (runs_alike k.plan k.named) in
      let to = own_end r (exec u k.plan) alike in
      record { plan = k.plan; is = k.is; end = to.0; executes = to.1; correspond = correspond r to.0 to.2 }

  pub valid_back : (q : List Instance) → lifted.IsValid t q → IsOfValidPlan u q
  valid_back q v =
      let k = run_back q v.end v.instances v.executes in
      record {
        plan = k.plan;
        is = k.is;
        cost = k.end.cost;
        valid = record { end = k.end; executes = k.executes; meets_goal = sym (goals_alike v.end k.end k.correspond) ∙ v.meets_goal; costs = refl };
      }
