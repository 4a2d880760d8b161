use Rattle.std.proofs.Common.{◌∙◌, ap, arith, List, ℕ}
use Rattle.hd_base.specs.Bits.{bit_in}
use Rattle.hd_tables.proofs.Words.{bit_below}
use Rattle.hd_tables.proofs.bits.add_bit_word.Goals as goal

pub returns-then-number-len-clause-below : goal.returns-then-number-len-clause-below
returns-then-number-len-clause-below c =
    let next = c.requires.next in
    λ i lt.
    ap (λ (ws : List ℕ). bit_in ws i) c.push.ensures.items ∙ bit_below c.args.words.now.items 0 i (omega (arith, lt, next))
