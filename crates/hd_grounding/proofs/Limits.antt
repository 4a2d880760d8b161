-- What is counted and within the limits is not too large.
use Rattle.std.proofs.Common.{List, arith}
use Rattle.hd_lifted.specs.declared.schema.Ground.{Ground}
use Rattle.hd_lifted.specs.declared.task.LiftedTask.{LiftedTask}
use Rattle.hd_lifted.specs.declared.instance.Instance.{Instance}
use Rattle.hd_task.specs.declared.task.TheConstants.{MAX_ACTIONS, MAX_ATOMS, MAX_FLUENTS}
use Rattle.hd_lifted.specs.Kept.{IsKept}
use Rattle.hd_lifted.specs.Numbering.{IsTaskAtom, IsTaskFluent}
use Rattle.hd_grounding.specs.Faults.{IsTooLarge}
use Rattle.hd_grounding.proofs.Faulty.{no_more}
use Rattle.hd_grounding.specs.Counted.{AreCounted}

module _ (t : LiftedTask) (instances : List Instance) (atoms fluents : List Ground) (counted : AreCounted t instances atoms fluents) where
  pub not_too_large : IsTooLarge t → ⊥
  not_too_large (IsTooLarge.actions over) =
      no_more (IsKept t) MAX_ACTIONS instances (λ i kept. (counted.numbers_instances.exactly i).0 kept) counted.few_instances over
  not_too_large (IsTooLarge.atoms over) =
      no_more (IsTaskAtom t) MAX_ATOMS atoms (λ g is. (counted.numbers_atoms.exactly g).0 is) counted.few_atoms over
  not_too_large (IsTooLarge.fluents over) =
      no_more (IsTaskFluent t) MAX_FLUENTS fluents (λ g is. (counted.numbers_fluents.exactly g).0 is) counted.few_fluents over
  not_too_large (IsTooLarge.amounts over) =
      omega (arith, over.more, counted.few_amounts over.instance over.schema ((counted.numbers_instances.exactly over.instance).0 over.kept) over.is_schema)
