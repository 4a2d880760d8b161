use Rattle.std.proofs.Common.{sym}
use Rattle.hd_names.proofs.NameLists.{position-texts}
use Rattle.hd_names.proofs.names.NumberedNames.place_of.Goals as goal

pub returns : goal.returns
returns c = position-texts c.self.inside.names.keys _ _ _ _ (sym c.self.view_is) c.as_str.ensures c.get_index_of.ensures.index
