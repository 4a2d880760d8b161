use Rattle.std.proofs.Common.{◌≡◌, length, sym, ap, ◌∙◌}
use Rattle.hd_pack.proofs.Splitting.{length-merged}
use Rattle.hd_pack.proofs.split.SplitBytes.len.Goals as goal

pub returns : goal.returns
returns c =
    let i = c.self.inside in
    let many : length c.args.self.now ≡ length i.base.now = ap length (sym c.self.view_is) ∙ length-merged i.segments.now i.base.now i.own.now c.self.invariant in
    sym many
