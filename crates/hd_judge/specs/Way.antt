-- What a plan without a fault keeps: what is read along it is there. (Our own.)
use Rattle.std.specs.Prelude.{◌≡◌, ℕ, true, Some, is_some, pos}
use Rattle.hd_lifted.specs.declared.schema.Ground.{Ground}
use Rattle.hd_lifted.specs.declared.task.LiftedTask.{LiftedTask}
use Rattle.hd_lifted.specs.Steps.{Reached}
use Rattle.hd_lifted.specs.Questions.{is_defined}

-- each fluent that has a first value has a value, and there is a cost, which is not negative
pub record IsOnWay (t : LiftedTask) (r : Reached) : Type 0 where
  pub values : (g : Ground) → is_defined t g ≡ true → is_some (r.state.values g) ≡ true
  pub cost : (c : ℕ) × (r.cost ≡ Some (pos c))
