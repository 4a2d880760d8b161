-- Totals as they are kept. (Our own.)
use Rattle.std.specs.Prelude.{ℕ, Option, Some, None}
use Rattle.hd_worker.specs.declared.total.Code.{Code}
use Rattle.hd_worker.specs.declared.total.Code.TheVariants.{Infinite, Small, Large}

-- none, or the number that is kept, in 64 bits or beside
abbrev pub total_of_code : Code → Option ℕ
total_of_code Infinite = None
total_of_code (Small n) = Some n
total_of_code (Large n) = Some n
