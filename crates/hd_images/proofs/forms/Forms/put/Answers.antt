use Rattle.std.proofs.Common.{◌∙◌, List, ap}
use Rattle.hd_lifted.specs.declared.schema.Ground.{Ground}
use Rattle.hd_images.specs.Meeting.{with_form}
use Rattle.hd_images.proofs.Tables.{form-put}
use Rattle.hd_images.proofs.forms.Forms.put.Goals as goal

pub returns : goal.returns
returns c =
    c.in_ok-insert.ensures.keys
    ∙ (form-put c.self.inside.table.keys c.args.form
    ∙ ap (λ (fs : List Ground). with_form fs c.args.form) c.self.view_is)
