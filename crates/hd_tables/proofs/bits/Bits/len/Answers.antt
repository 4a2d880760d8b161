use Rattle.std.proofs.Common.{◌∙◌, length, sym, ap}
use Rattle.std.proofs.lemmas.List.FromFn.{length-map-range_with_len}
use Rattle.hd_tables.specs.Bits.{BitsView}
use Rattle.hd_base.specs.Bits.{bit_in}
use Rattle.hd_tables.proofs.bits.Bits.len.Goals as goal

pub returns : goal.returns
returns c =
    let s = c.self.inside in
    sym (length-map-range_with_len (bit_in s.words.items) 0 s.len) ∙ ap (λ (v : BitsView). length v.items) c.self.view_is
