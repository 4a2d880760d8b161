use Rattle.std.proofs.Common.{length, ap, arith}
use Rattle.hd_tables.specs.Kids.{KidsView}
use Rattle.hd_tables.proofs.Placing.{length-kids_by}
use Rattle.hd_tables.proofs.table.KidTable.is_settled.Goals as goal

pub at-requires : goal.at-requires
at-requires c =
    let s = c.self.inside in
    let view = ap (λ (t : KidsView). length t.kids) c.self.view_is in
    let count = length-kids_by s.firsts.items s.actions.items in
    let each = c.self.invariant.one_each in
    let within = c.requires in
    omega (arith, view, count, each, within)
