use Rattle.std.proofs.Common.{◌≡◌, ◌+◌, length}
use Rattle.hd_forms.specs.Nesting.{IsNested}
use Rattle.hd_forms.proofs.text.nest.Given as goal

abbrev pub invariant-loop-rest : goal.invariant-loop-rest
invariant-loop-rest l = record {
  place : l.at + length l.rest ≡ length l.text;
  nested : IsNested l.text l.around l.forms.items l.at l.rest;
}

abbrev pub decreases-loop-rest : goal.decreases-loop-rest
decreases-loop-rest l = length l.rest
