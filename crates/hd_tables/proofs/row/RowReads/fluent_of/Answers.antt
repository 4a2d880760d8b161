use Rattle.std.proofs.Common.{rules, Option, ℤ, pos, ap, ◌∙◌}
use Rattle.std.specs.Prelude.{unwrap_or}
use Rattle.std.specs.Int.{w64}
use Rattle.std.proofs.lemmas.Int.{to_z-of_z}
use Rattle.std.proofs.lemmas.Option.{unwrap_or-slice_get}
use Rattle.hd_tables.proofs.row.RowReads.fluent_of.Goals as goal

pub returns : goal.returns
returns c =
    to_z-of_z w64 c.unwrap_or.result (search rules)
    ∙ (c.unwrap_or.ensures ∙ (ap (λ (o : Option ℤ). unwrap_or o (pos 0)) c.fluent.ensures ∙ unwrap_or-slice_get c.args.self.now.fluents c.args.fluent (pos 0)))
