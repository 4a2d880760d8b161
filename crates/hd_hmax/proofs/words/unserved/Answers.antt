use Rattle.std.proofs.Common.{sym, ◌∙◌, arith}
use Rattle.std.specs.Int.{w64, bit_not}
use Rattle.std.proofs.lemmas.Bool.{and_parts}
use Rattle.hd_hmax.specs.Lanes.{bit}
use Rattle.hd_hmax.proofs.Bits.{bit-and, none_lacks}
use Rattle.hd_hmax.proofs.words.unserved.Goals as goal

pub returns-clause-none : goal.returns-clause-none
returns-clause-none c none j h all =
    sym (c.ready-2.ensures j h) ∙ none_lacks c.ready.result c.ready-2.result j h (omega arith) none (c.ready.ensures j h ∙ all)

pub returns-clause-only : goal.returns-clause-only
returns-clause-only c j h is =
    sym (c.ready.ensures j h) ∙ (and_parts (bit c.ready.result j) (bit (bit_not w64 c.ready-2.result) j) (sym (bit-and c.ready.result (bit_not w64 c.ready-2.result) j) ∙ is)).0
