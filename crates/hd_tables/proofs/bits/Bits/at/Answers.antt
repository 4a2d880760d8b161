use Rattle.std.proofs.Common.{◌≡◌, ◌<◌, ◌/◌, ◌%◌, ◌^◌, ◌∙◌, ◌==◌, ℕ, true, length, get_or, ap, arith}
use Rattle.std.specs.Prelude.{bit_and}
use Rattle.std.proofs.lemmas.List.{get_or_default}
use Rattle.std.proofs.lemmas.List.FromFn.{length-map-range_with_len}
use Rattle.hd_tables.specs.Bits.{BitsView}
use Rattle.hd_base.specs.Bits.{bit_in}
use Rattle.hd_tables.proofs.Words.{bit_read}
use Rattle.hd_tables.proofs.bits.Bits.at.Goals as goal

pub at-requires : goal.at-requires
at-requires c =
    let s = c.self.inside in
    let view = ap (λ (v : BitsView). length v.items) c.self.view_is in
    let len = length-map-range_with_len (bit_in s.words.items) 0 s.len in
    let enough = c.self.invariant in
    let within = c.requires in
    omega (arith, view, len, enough, within)

pub returns : goal.returns
returns c =
    let s = c.self.inside in
    let n = c.args.number in
    let view = ap (λ (v : BitsView). length v.items) c.self.view_is in
    let len = length-map-range_with_len (bit_in s.words.items) 0 s.len in
    let enough = c.self.invariant in
    let within = c.requires in
    let lt : n < s.len = omega (arith, view, len, within) in
    let word : c.at.result.now ≡ get_or s.words.items (n / 64) 0 =
    c.at.ensures ∙ get_or_default s.words.items (n / 64) c.at.result.now 0 (omega (arith, lt, enough))
    in
    ap (λ (w : ℕ). bit_and (w / 2 ^ (n % 64)) 1 == 1) word
    ∙ (bit_read s.words.items s.len n true lt ∙ ap (λ (v : BitsView). get_or v.items n true) c.self.view_is)
