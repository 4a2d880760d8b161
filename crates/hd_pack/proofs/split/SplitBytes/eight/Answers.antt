use Rattle.std.proofs.Common.{◌≡◌, length, sym, ap, ◌∙◌, arith}
use Rattle.hd_pack.proofs.Splitting.{length-merged}
use Rattle.hd_pack.proofs.split.SplitBytes.eight.Goals as goal

pub eight_together-requires-clause-place : goal.eight_together-requires-clause-place
eight_together-requires-clause-place c =
    let i = c.self.inside in
    let many : length c.args.self.now ≡ length i.base.now = ap length (sym c.self.view_is) ∙ length-merged i.segments.now i.base.now i.own.now c.self.invariant in
    let within = c.requires in
    omega (arith, many, within)
