-- One fault is reported of a task at most.
use Rattle.std.proofs.Common.{◌≡◌, List, sym, ap, ◌∙◌}
use Rattle.std.proofs.lemmas.Option.{none-some, same_Some}
use Rattle.hd_lifted.specs.declared.schema.Ground.{Ground}
use Rattle.hd_lifted.specs.declared.task.LiftedTask.{LiftedTask}
use Rattle.hd_lifted.specs.declared.instance.Instance.{Instance}
use Rattle.hd_lifted.specs.Kept.{IsKept}
use Rattle.hd_lifted.specs.Numbering.{instance_key, NumbersInstances}
use Rattle.hd_lifted.proofs.Rising.{lists_are_one}
use Rattle.hd_grounding.specs.Faults.{undefined_in, negative_in, IsUndefined, IsNegative}

module _ (t : LiftedTask) where
  one_list : (xs ys : List Instance) → NumbersInstances t xs → NumbersInstances t ys → xs ≡ ys
  one_list = lists_are_one (IsKept t) instance_key

  pub one_undefined : (g h : Ground) → IsUndefined t g → IsUndefined t h → g ≡ h
  one_undefined g h first second =
      same_Some g h
      (sym first.is_first
      ∙ (ap (undefined_in t) (one_list first.instances second.instances first.numbers_instances second.numbers_instances) ∙ second.is_first))

  pub one_negative : (i j : Instance) → IsNegative t i → IsNegative t j → i ≡ j
  one_negative i j first second =
      same_Some i j
      (sym first.is_first
      ∙ (ap (negative_in t) (one_list first.instances second.instances first.numbers_instances second.numbers_instances) ∙ second.is_first))

  pub not_both : (g : Ground) (i : Instance) → IsUndefined t g → IsNegative t i → ⊥
  not_both g i first second =
      none-some g
      (sym second.none_undefined
      ∙ (ap (undefined_in t) (one_list second.instances first.instances second.numbers_instances first.numbers_instances) ∙ first.is_first))
