use Rattle.std.proofs.Common.{length, ap, arith}
use Rattle.std.proofs.lemmas.List.Sums.{count_by-le-length}
use Rattle.hd_tables.specs.Kids.{KidsView}
use Rattle.hd_tables.proofs.Placing.{length-kids_by}
use Rattle.hd_tables.proofs.table.KidTable.settled.Goals as goal

pub returns-clause-few : goal.returns-clause-few
returns-clause-few c =
    let s = c.self.inside in
    let view = ap (λ (t : KidsView). length t.kids) c.self.view_is in
    let count = length-kids_by s.firsts.items s.actions.items in
    let each = c.self.invariant.one_each in
    let is = c.self.invariant.settled_is in
    let few = count_by-le-length (λ m. m) s.marks.items in
    omega (arith, view, count, each, is, few)
