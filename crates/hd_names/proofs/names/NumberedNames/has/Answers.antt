use Rattle.std.proofs.Common.{sym, string_bytes}
use Rattle.hd_names.proofs.NameLists.{any-keys}
use Rattle.hd_names.proofs.names.NumberedNames.has.Goals as goal

pub returns : goal.returns
returns c = any-keys string_bytes c.self.inside.names.keys _ _ _ _ (sym c.self.view_is) c.as_str.ensures c.contains.ensures
