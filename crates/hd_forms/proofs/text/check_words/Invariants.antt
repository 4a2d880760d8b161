use Rattle.std.proofs.Common.{◌≡◌, ◌+◌, List, length}
use Rattle.hd_lex.specs.Reading.{IsReadTo}
use Rattle.hd_lex.specs.declared.token.Token.{Token}
use Rattle.hd_forms.proofs.text.check_words.Given as goal

abbrev pub invariant-loop-rest : goal.invariant-loop-rest
invariant-loop-rest l = record {
  place : l.place + length l.rest ≡ l.at + length l.text;
  read : (tokens : List Token) × IsReadTo l.at l.text tokens l.place l.rest;
}

abbrev pub decreases-loop-rest : goal.decreases-loop-rest
decreases-loop-rest l = length l.rest
