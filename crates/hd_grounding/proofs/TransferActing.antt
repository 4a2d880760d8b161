-- The actions of the task are the kept instances, in order, and each valid plan has a cost.
use Rattle.std.proofs.Common.{◌≡◌, ℕ, List, [], ◌∷◌, map, Option, Some, None, slice_get, refl, sym, ap₂, ◌∙◌, subst}
use Rattle.std.specs.Prelude.{option_map, pos}
use Rattle.std.specs.List.{AllZip}
use Rattle.std.proofs.lemmas.Option.{none-some, same_Some}
use Rattle.hd_lifted.specs.declared.task.LiftedTask.{LiftedTask}
use Rattle.hd_lifted.specs.declared.instance.Instance.{Instance}
use Rattle.hd_lifted.specs.Plans as domain
use Rattle.hd_task.specs.declared.action.Action.{Action}
use Rattle.hd_task.specs.declared.task.Task.{Task}
use Rattle.hd_lifted.specs.Kept.{IsKept}
use Rattle.hd_lifted.specs.Numbering.{NumbersInstances}
use Rattle.hd_grounding.specs.Grounding.{IsActionOf, IsGrounding}
use Rattle.hd_grounding.proofs.Grounded.{kept_action}
use Rattle.hd_grounding.specs.Instances.{instance_of, HasAction}
use Rattle.hd_grounding.proofs.Runs.{instance_is, valid_there, valid_back}

module _ (t : LiftedTask) (u : Task) (made : IsGrounding t u) where
  named_by : (is : List Instance) (bs : List Action) → AllZip (IsActionOf t made.atoms made.fluents) is bs → is ≡ map instance_of bs
  named_by [] [] of = refl
  named_by [] (b ∷ bs) of = absurd of
  named_by (i ∷ is) [] of = absurd of
  named_by (i ∷ is) (b ∷ bs) of = ap₂ (λ x xs. x ∷ xs) (sym (instance_is t u made i b of.0)) (named_by is bs of.1)

  pub actions_numbered : NumbersInstances t (map instance_of u.actions)
  actions_numbered = subst (NumbersInstances t) (named_by made.instances u.actions made.actions_are) made.numbers_instances

  kept_at : (n : ℕ) (i : Instance) (o : Option Action) → slice_get u.actions n ≡ o → option_map instance_of o ≡ Some i → IsKept t i
  kept_at n i None at is = absurd (none-some i is)
  kept_at n i (Some b) at is =
      let from = kept_action t u made n b at in
      subst (IsKept t) (sym (instance_is t u made from.0 b from.2) ∙ same_Some (instance_of b) i is) from.1

  pub has_action-kept : (i : Instance) → HasAction u i → IsKept t i
  has_action-kept i has = kept_at has.number i (slice_get u.actions has.number) refl has.is

  pub valid_cost : (q : List Instance) → domain.IsValid t q → (c : ℕ) × domain.IsValidAt t q (pos c)
  valid_cost q v =
      let k = valid_back t u made q v in
      (k.cost, subst (λ q. domain.IsValidAt t q (pos k.cost)) k.is (valid_there t u made k.plan k.cost k.valid))
