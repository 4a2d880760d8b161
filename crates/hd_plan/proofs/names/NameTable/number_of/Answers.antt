use Rattle.std.proofs.Common.{sym}
use Rattle.hd_plan.proofs.Finding.{position-views}
use Rattle.hd_plan.proofs.names.NameTable.number_of.Goals as goal

pub returns : goal.returns
returns c = position-views (λ k. k.now) c.self.inside.names.keys _ _ _ _ (sym c.self.view_is) c.as_str.ensures c.get_index_of.ensures.index
