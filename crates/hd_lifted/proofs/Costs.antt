-- What a plan costs is unique.
use Rattle.std.proofs.Common.{◌≡◌, List, ℤ, sym, ap, ◌∙◌, subst, arith}
use Rattle.std.proofs.lemmas.Option.{same_Some}
use Rattle.std.specs.Prelude.{◌≤ℤ◌}
use Rattle.std.proofs.lemmas.Int.{ints}
use Rattle.hd_lifted.specs.declared.task.LiftedTask.{LiftedTask}
use Rattle.hd_lifted.specs.Steps.{Reached}
use Rattle.hd_lifted.specs.declared.instance.Instance.{Instance}
use Rattle.hd_lifted.specs.Plans.{IsValidAt, IsOptimal}

pub one_cost : (t : LiftedTask) (p : List Instance) (c d : ℤ) → IsValidAt t p c → IsValidAt t p d → c ≡ d
one_cost t p c d v w =
    let same : v.valid.end ≡ w.valid.end = same_Some v.valid.end w.valid.end (sym v.valid.executes ∙ w.valid.executes) in
    same_Some c d (sym v.costs ∙ ap (λ (r : Reached). r.cost) same ∙ w.costs)

-- an optimal plan costs no more than a plan that is valid at a cost
no_more : (t : LiftedTask) (p q : List Instance) (best : IsOptimal t p) (d : ℤ) → IsValidAt t q d → best.cost ≤ℤ d
no_more t p q best d valid =
    let other = best.least q valid.valid in
    subst (λ (c : ℤ). best.cost ≤ℤ c) (one_cost t q other.cost d other.valid valid) other.no_less

pub one_best : (t : LiftedTask) (p q : List Instance) (best : IsOptimal t p) (other : IsOptimal t q) → best.cost ≡ other.cost
one_best t p q best other =
    let low : best.cost ≤ℤ other.cost = no_more t p q best other.cost other.valid in
    let high : other.cost ≤ℤ best.cost = no_more t q p other best.cost best.valid in
    omega (arith, ints, low, high)
