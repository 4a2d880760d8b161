use Rattle.hd_lifted.specs.Types.{IsOnCycle}
use Rattle.hd_lifted.proofs.hierarchy.least_of_cycle.Given as goal

abbrev pub invariant-loop : goal.invariant-loop
invariant-loop l = record { least : IsOnCycle l.parents l.least; kind : IsOnCycle l.parents l.kind }
