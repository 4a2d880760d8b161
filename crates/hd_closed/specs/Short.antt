-- Places and estimates as numbers of a few bytes. (Our own.)
use Rattle.std.specs.Prelude.{ℕ, zero, suc, Option, Some, None}
use Rattle.hd_hmax.specs.declared.estimate.EstimateValue.{EstimateValue}
use Rattle.hd_hmax.specs.declared.estimate.EstimateValue.TheVariants.{Cost, Dead}

-- none, or the place that is one less
abbrev pub place_of_code : ℕ → Option ℕ
place_of_code zero = None
place_of_code (suc n) = Some n

-- none, no way to the goal, or the cost that is two less
abbrev pub value_of_code : ℕ → Option EstimateValue
value_of_code zero = None
value_of_code (suc zero) = Some Dead
value_of_code (suc (suc n)) = Some (Cost n)
