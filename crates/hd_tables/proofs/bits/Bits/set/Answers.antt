use Rattle.std.proofs.Common.{◌<◌, ◌∙◌, length, set, ap, arith}
use Rattle.std.proofs.lemmas.List.FromFn.{length-map-range_with_len}
use Rattle.hd_tables.specs.Bits.{BitsView}
use Rattle.hd_base.specs.Bits.{bit_in}
use Rattle.hd_tables.proofs.Words.{bits_put}
use Rattle.hd_tables.proofs.bits.Bits.set.Goals as goal

pub write-requires : goal.write-requires
write-requires c =
    let s = c.self.inside in
    let view = ap (λ (v : BitsView). length v.items) c.self.view_is in
    let len = length-map-range_with_len (bit_in s.words.items) 0 s.len in
    let enough = c.self.invariant in
    let within = c.requires in
    omega (arith, view, len, enough, within)

pub returns-clause-items : goal.returns-clause-items
returns-clause-items c =
    let s = c.self.inside in
    let view = ap (λ (v : BitsView). length v.items) c.self.view_is in
    let len = length-map-range_with_len (bit_in s.words.items) 0 s.len in
    let within = c.requires in
    let lt : c.args.number < s.len = omega (arith, view, len, within) in
    bits_put s.words.items c.write.new.words.items s.len c.args.number c.args.bit lt c.write.ensures.written c.write.ensures.others
    ∙ ap (λ (v : BitsView). set v.items c.args.number c.args.bit) c.self.view_is

pub returns-clause-few : goal.returns-clause-few
returns-clause-few c =
    let s = c.self.inside in
    let len = length-map-range_with_len (bit_in c.write.new.words.items) 0 s.len in
    let few = c.write.ensures.few in
    let same = c.write.ensures.len in
    let enough = c.self.invariant in
    omega (arith, len, few, same, enough)
