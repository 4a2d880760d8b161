use Rattle.std.proofs.Common.{◌≡◌, ◌+◌, ◌++◌, ℕ, List, length, string_bytes}
use Rattle.hd_judge.specs.Tables.{reached_in}
use Rattle.hd_judge.specs.Way.{IsOnWay}
use Rattle.hd_explain.specs.Traces.{TracesFrom}
use Rattle.hd_explain.proofs.tracing.trace_from.Given as goal

-- what the trace of the rest from here on is, behind the text so far, is that of the steps
abbrev pub invariant-loop-rest : goal.invariant-loop-rest
invariant-loop-rest l = record {
  numbered : l.number + length l.rest ≡ 1 + length l.steps;
  way : IsOnWay l.lookups (reached_in l.place);
  traces : (after : List ℕ) → TracesFrom l.lookups (reached_in l.place) l.number l.rest after
      → TracesFrom l.lookups (reached_in l.fn.place) 1 l.steps (string_bytes l.text ++ after);
}

abbrev pub decreases-loop-rest : goal.decreases-loop-rest
decreases-loop-rest l = length l.rest
