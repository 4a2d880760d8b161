use Rattle.std.proofs.Common.{◌∙◌, false, ap}
use Rattle.hd_tables.specs.Kids.{KidsView, with_mark_at}
use Rattle.hd_tables.proofs.Showing.{shown_marked}
use Rattle.hd_tables.proofs.table.KidTable.reopen.Goals as goal

pub returns : goal.returns
returns c =
    let s = c.self.inside in
    shown_marked s.firsts s.actions s.marks c.set.new.self c.args.place false c.set.ensures.items c.set.ensures.room
    ∙ ap (λ (t : KidsView). with_mark_at t c.args.place false) c.self.view_is
