-- The value of an estimate as the definitions see it. (Our own.)
use Rattle.std.specs.Prelude.{ℕ, Option, Some, None}
use Rattle.hd_hmax.specs.declared.estimate.EstimateValue.{EstimateValue}
use Rattle.hd_hmax.specs.declared.estimate.EstimateValue.TheVariants.{Cost, Dead}

-- a cost, or none where there is no way to the goal
abbrev pub estimated : EstimateValue → Option ℕ
estimated (Cost c) = Some c
estimated Dead = None
