use Rattle.std.proofs.Common.{◌≡◌, length, sym, ap, ◌∙◌}
use Rattle.hd_pack.proofs.Splitting.{length-merged, differ_length}
use Rattle.hd_pack.proofs.split.SplitBytes.is.Goals as goal

pub returns-then-bytes-self : goal.returns-then-bytes-self
returns-then-bytes-self c =
    let i = c.self.inside in
    let many : length c.args.self.now ≡ length i.base.now = ap length (sym c.self.view_is) ∙ length-merged i.segments.now i.base.now i.own.now c.self.invariant in
    sym (differ_length c.args.self.now c.args.bytes.now (λ e. c.if-bytes-self.true (e ∙ many)))
