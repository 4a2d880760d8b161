use Rattle.std.proofs.Common.{◌≡◌, ◌++◌, length, map}
use Rattle.hd_judge.specs.Tables.{reached_in}
use Rattle.hd_explain.specs.Readings.{reading_at, paid_fluents}
use Rattle.hd_explain.proofs.reading.push_costs.Given as goal

-- what is read so far, and what is read in the rest
abbrev pub invariant-loop-rest : goal.invariant-loop-rest
invariant-loop-rest l =
    l.readings.items ++ map (reading_at (reached_in l.place).state.values) (paid_fluents l.objects l.rest)
    ≡ l.fn.readings.items ++ map (reading_at (reached_in l.place).state.values) (paid_fluents l.objects l.said)

abbrev pub decreases-loop-rest : goal.decreases-loop-rest
decreases-loop-rest l = length l.rest
