-- Costs plus estimates. (A*, Hart, Nilsson and Raphael 1968.)
use Rattle.std.specs.Prelude.{ℕ, ◌+◌, ◌-◌, ◌^◌, Bool, true, false, nat_le, min, Option, Some, None}
use Rattle.hd_task.specs.declared.task.Task.{Task}
use Rattle.hd_hmax.specs.Rounds.{hmax}
use Rattle.hd_entries.specs.Holding.{Released}

-- a cost plus an estimate; none where the estimate is infinite. Sums are told apart as far as 128
-- bits go
abbrev pub total_of : ℕ → Option ℕ → Option ℕ
total_of cost None = None
total_of cost (Some v) = Some (min (v + cost) (2 ^ 128 - 1))

-- what a parcel costs, plus its state's estimate
abbrev pub total_at : Task → Released → Option ℕ
total_at t r = total_of r.cost (hmax t r.state)

-- a total reaches a bound, or there is none
abbrev pub reaches_bound : Option ℕ → Option ℕ → Bool
reaches_bound bound None = true
reaches_bound None (Some total) = false
reaches_bound (Some limit) (Some total) = nat_le limit total
