-- A true verdict of the task is one of its domain.
use Rattle.std.proofs.Common.{◌≡◌, ℕ, List, subst, arith}
use Rattle.std.specs.Prelude.{pos}
use Rattle.std.proofs.lemmas.Int.{ints}
use Rattle.hd_lifted.specs.declared.task.LiftedTask.{LiftedTask}
use Rattle.hd_lifted.specs.declared.instance.Instance.{Instance}
use Rattle.hd_lifted.specs.Plans as domain
use Rattle.hd_lifted.proofs.Costs.{one_cost}
use Rattle.hd_task.specs.declared.task.Task.{Task}
use Rattle.hd_task.specs.Verdicts.{IsOptimal, HasNoPlan}
use Rattle.hd_grounding.specs.Grounding.{IsGrounding}
use Rattle.hd_grounding.specs.Instances.{instances_of}
use Rattle.hd_grounding.proofs.Runs.{valid_there, valid_back}

module _ (t : LiftedTask) (u : Task) (made : IsGrounding t u) where
  -- no valid plan of the domain costs less
  no_less : (p : List ℕ) (best : IsOptimal u p) (q : List Instance) → domain.IsValid t q → domain.CostsAtLeast t q (pos best.cost)
  no_less p best q v =
      let k = valid_back t u made q v in
      let least = best.least k.plan k.cost k.valid in
      record {
        cost = pos k.cost;
        valid = subst (λ q. domain.IsValidAt t q (pos k.cost)) k.is (valid_there t u made k.plan k.cost k.valid);
        no_less = omega (arith, ints, least);
      }

  pub optimal_there : (p : List ℕ) → IsOptimal u p → domain.IsOptimal t (instances_of u p)
  optimal_there p best = record {
    cost = pos best.cost;
    valid = valid_there t u made p best.cost best.valid;
    least = no_less p best;
  }

  pub optimal_cost : (p : List ℕ) (best : IsOptimal u p) (there : domain.IsOptimal t (instances_of u p)) → there.cost ≡ pos best.cost
  optimal_cost p best there =
      one_cost t (instances_of u p) there.cost (pos best.cost) there.valid (valid_there t u made p best.cost best.valid)

  pub none_there : HasNoPlan u → domain.HasNoPlan t
  none_there none q v = let k = valid_back t u made q v in none k.plan k.cost k.valid
