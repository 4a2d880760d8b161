use Rattle.std.proofs.Common.{◌≡◌, ◌++◌, length, map}
use Rattle.hd_lifted.specs.States.{ground_form_of}
use Rattle.hd_judge.specs.Tables.{reached_in}
use Rattle.hd_explain.specs.Readings.{reading_at, changing_fluents}
use Rattle.hd_explain.proofs.reading.push_changes.Given as goal

-- what is read so far, and what is read in the rest
abbrev pub invariant-loop-rest : goal.invariant-loop-rest
invariant-loop-rest l =
    l.readings.items ++ map (reading_at (reached_in l.place).state.values) (changing_fluents l.objects (ground_form_of l.objects l.fluent) l.rest)
    ≡ l.fn.readings.items ++ map (reading_at (reached_in l.place).state.values) (changing_fluents l.objects (ground_form_of l.objects l.fluent) l.said)

abbrev pub decreases-loop-rest : goal.decreases-loop-rest
decreases-loop-rest l = length l.rest
