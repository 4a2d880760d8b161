use Rattle.std.proofs.Common.{◌∙◌, length, sym, ap}
use Rattle.hd_tables.specs.Kids.{KidsView}
use Rattle.hd_tables.proofs.Placing.{length-kids_by}
use Rattle.hd_tables.proofs.table.KidTable.posted.Goals as goal

pub returns-clause-posted : goal.returns-clause-posted
returns-clause-posted c =
    let s = c.self.inside in
    c.len.ensures.len ∙ (sym (length-kids_by s.firsts.items s.actions.items) ∙ ap (λ (t : KidsView). length t.kids) c.self.view_is)
