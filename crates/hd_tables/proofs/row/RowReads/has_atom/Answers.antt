use Rattle.std.proofs.Common.{Bool, Option, false, ap, ◌∙◌}
use Rattle.std.specs.Prelude.{unwrap_or}
use Rattle.std.proofs.lemmas.Option.{unwrap_or-slice_get}
use Rattle.hd_tables.proofs.row.RowReads.has_atom.Goals as goal

pub returns : goal.returns
returns c =
    c.unwrap_or.ensures ∙ (ap (λ (o : Option Bool). unwrap_or o false) c.atom.ensures ∙ unwrap_or-slice_get c.args.self.now.atoms c.args.atom false)
