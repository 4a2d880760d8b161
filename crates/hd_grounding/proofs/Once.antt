-- No two plans of the task have the same instances.
use Rattle.std.proofs.Common.{◌≡◌, ℕ, List, [], ◌∷◌, Some, slice_get, refl, sym, ap, ap₂, ◌∙◌}
use Rattle.std.specs.List.{AllByRecursion}
use Rattle.hd_base.proofs.Places.{left_of}
use Rattle.hd_lifted.specs.declared.task.LiftedTask.{LiftedTask}
use Rattle.hd_task.specs.declared.action.Action.{Action}
use Rattle.hd_task.specs.declared.task.Task.{Task}
use Rattle.hd_task.specs.Plans.{Node, start, exec}
use Rattle.hd_lifted.specs.Numbering.{instance_key}
use Rattle.hd_lifted.proofs.Rising.{one_place}
use Rattle.hd_grounding.specs.Grounding.{IsActionOf, IsGrounding}
use Rattle.hd_grounding.specs.Instances.{instance_of, instances_of}
use Rattle.hd_grounding.proofs.Runs.{IsNamed, instance_is, plan_of-named, all_named}

module _ (t : LiftedTask) (u : Task) (made : IsGrounding t u) where
  -- the instance of an action stands at its number
  instance_there : (n : ℕ) (b : Action) → slice_get u.actions n ≡ Some b → slice_get made.instances n ≡ Some (instance_of b)
  instance_there n b at =
      let beside = left_of (IsActionOf t made.atoms made.fluents) made.instances u.actions n b made.actions_are at in
      beside.1 ∙ ap Some (sym (instance_is t u made beside.0 b beside.2))

  same_number : (n k : ℕ) (b c : Action) → slice_get u.actions n ≡ Some b → slice_get u.actions k ≡ Some c → instance_of b ≡ instance_of c → n ≡ k
  same_number n k b c first second same =
      one_place instance_key made.instances made.numbers_instances.rising n k (instance_of c)
      (instance_there n b first ∙ ap Some same) (instance_there k c second)

  same_plan : (p q : List ℕ) → AllByRecursion (IsNamed u) p → AllByRecursion (IsNamed u) q → instances_of u p ≡ instances_of u q → p ≡ q
  same_plan [] [] first second same = refl
  same_plan [] (k ∷ q) first second same =
      let clash : [] ≡ instance_of second.0.0 ∷ instances_of u q = same ∙ plan_of-named t u made k second.0.0 q second.0.1 in
      absurd (cc)
  same_plan (n ∷ p) [] first second same =
      let clash : [] ≡ instance_of first.0.0 ∷ instances_of u p = sym same ∙ plan_of-named t u made n first.0.0 p first.0.1 in
      absurd (cc)
  same_plan (n ∷ p) (k ∷ q) first second same =
      let b = first.0.0 in
      let c = second.0.0 in
      let both : instance_of b ∷ instances_of u p ≡ instance_of c ∷ instances_of u q =
      sym (plan_of-named t u made n b p first.0.1) ∙ (same ∙ plan_of-named t u made k c q second.0.1) in
      let head : instance_of b ≡ instance_of c = cc in
      let rest : instances_of u p ≡ instances_of u q = cc in
      ap₂ (λ x xs. x ∷ xs) (same_number n k b c first.0.1 second.0.1 head) (same_plan p q first.1 second.1 rest)

  pub once : (p q : List ℕ) (m n : Node) → exec u p ≡ Some m → exec u q ≡ Some n → instances_of u p ≡ instances_of u q → p ≡ q
  once p q m n first second same =
      same_plan p q (all_named t u made p (Some (start u)) m first) (all_named t u made q (Some (start u)) n second) same
