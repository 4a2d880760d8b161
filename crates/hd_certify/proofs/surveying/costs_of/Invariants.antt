use Rattle.std.proofs.Common.{◌≡◌, take}
use Rattle.hd_entries.specs.Settling.{expansions}
use Rattle.hd_certify.specs.Survey.{costs_of}
use Rattle.hd_certify.proofs.surveying.costs_of.Given as goal

-- the costs so far
abbrev pub invariant-loop-number : goal.invariant-loop-number
invariant-loop-number l = record { costs : l.costs.items ≡ costs_of l.entries.state.task (take l.number (expansions l.entries.state)) }
