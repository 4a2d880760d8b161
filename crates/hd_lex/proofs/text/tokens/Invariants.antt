use Rattle.std.proofs.Common.{◌≡◌, ◌+◌, length}
use Rattle.hd_lex.specs.Reading.{IsReadTo}
use Rattle.hd_lex.proofs.text.tokens.Given as goal

abbrev pub invariant-loop-rest : goal.invariant-loop-rest
invariant-loop-rest l = record {
  place : l.at + length l.rest ≡ length l.text;
  read : IsReadTo 0 l.text l.tokens.items l.at l.rest;
}

abbrev pub decreases-loop-rest : goal.decreases-loop-rest
decreases-loop-rest l = length l.rest
