use Rattle.std.proofs.Common.{◌≢◌, List, subst}
use Rattle.std.specs.List.{AllPairs}
use Rattle.hd_lifted.specs.declared.schema.Ground.{Ground}
use Rattle.hd_images.proofs.Tables.{forms-apart}
use Rattle.hd_images.proofs.forms.Forms.len.Goals as goal

pub returns-clause-distinct : goal.returns-clause-distinct
returns-clause-distinct c =
    subst (λ (fs : List Ground). AllPairs (λ (g h : Ground). g ≢ h) fs) c.self.view_is
    (forms-apart c.self.inside.table.keys c.len.ensures.unique)
