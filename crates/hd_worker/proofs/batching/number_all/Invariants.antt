use Rattle.std.proofs.Common.{◌≡◌, length}
use Rattle.hd_turns.specs.Calls.{outcome_numbered}
use Rattle.hd_worker.proofs.Mapping.{mapped}
use Rattle.hd_worker.proofs.batching.number_all.Given as goal

-- the outcomes up to a place are named again
abbrev pub invariant-loop-outcome : goal.invariant-loop-outcome
invariant-loop-outcome l = record {
  as_many : length l.outcomes ≡ length l.fn.outcomes;
  named : l.outcomes ≡ mapped (outcome_numbered l.first l.given) l.outcome-index l.fn.outcomes;
}
