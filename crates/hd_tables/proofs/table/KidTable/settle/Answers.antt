use Rattle.std.proofs.Common.{◌∙◌, true, length, ap, arith}
use Rattle.std.proofs.Math.Facts.{Fits-of_lt}
use Rattle.std.proofs.lemmas.List.{length-set}
use Rattle.std.proofs.lemmas.List.Sums.{count_by-le-length}
use Rattle.hd_tables.specs.Kids.{KidsView, with_mark_at}
use Rattle.hd_tables.proofs.Showing.{shown_marked}
use Rattle.hd_tables.proofs.table.KidTable.settle.Goals as goal

pub overflow_add-self : goal.overflow_add-self
overflow_add-self c =
    let s = c.self.inside in
    let is = c.self.invariant.settled_is in
    let few = count_by-le-length (λ m. m) s.marks.items in
    let long = ap length c.set.ensures.items in
    let same = length-set s.marks.items c.args.place true in
    let bound = c.set.ensures.few in
    Fits-of_lt (omega (arith, is, few, long, same, bound))

pub returns : goal.returns
returns c =
    let s = c.self.inside in
    shown_marked s.firsts s.actions s.marks c.set.new.self c.args.place true c.set.ensures.items c.set.ensures.room
    ∙ ap (λ (t : KidsView). with_mark_at t c.args.place true) c.self.view_is
