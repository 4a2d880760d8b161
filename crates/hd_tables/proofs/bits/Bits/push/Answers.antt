use Rattle.std.proofs.Common.{◌∙◌, ◌++◌, [], ◌∷◌, ap, arith}
use Rattle.std.proofs.Math.Facts.{Fits-of_lt}
use Rattle.hd_tables.specs.Bits.{BitsView}
use Rattle.hd_tables.proofs.Words.{bits_pushed}
use Rattle.hd_tables.proofs.bits.Bits.push.Goals as goal

pub overflow_add-self : goal.overflow_add-self
overflow_add-self c =
    let a = c.add_bit_word.ensures in
    let within = a.within in
    let few = a.few in
    Fits-of_lt (omega (arith, within, few))

pub returns-clause-items : goal.returns-clause-items
returns-clause-items c =
    let s = c.self.inside in
    bits_pushed s.words.items c.write.new.words.items s.len c.args.bit
    (λ i lt. c.write.ensures.others i (λ e. omega (arith, lt, e)) ∙ c.add_bit_word.ensures.below i lt)
    c.write.ensures.written
    ∙ ap (λ (v : BitsView). v.items ++ c.args.bit ∷ []) c.self.view_is
