use Rattle.std.proofs.Common.{◌+◌, ◌≤◌, length}
use Rattle.hd_plan.specs.Reading.{IsPlanReadTo}
use Rattle.hd_plan.proofs.read.steps_of.Given as goal

abbrev pub invariant-loop-rest : goal.invariant-loop-rest
invariant-loop-rest l = record {
  place : l.number + length l.rest ≤ length l.text;
  read : IsPlanReadTo l.text l.steps.items l.number l.rest;
}

abbrev pub decreases-loop-rest : goal.decreases-loop-rest
decreases-loop-rest l = length l.rest
