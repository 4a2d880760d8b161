use Rattle.std.proofs.Common.{◌∙◌, sym, ap}
use Rattle.hd_grounding.specs.Images.{number_of}
use Rattle.hd_images.proofs.Tables.{number_of-place_in}
use Rattle.hd_images.proofs.numbers.NumberedForms.number_of.Goals as goal

pub returns-in-Some : goal.returns-in-Some
returns-in-Some c =
    sym c.in-Some.is
    ∙ (c.get_index_of.ensures.index
    ∙ (number_of-place_in c.self.inside.table.keys c.args.form.now ∙ ap (λ fs. number_of fs c.args.form.now) c.self.view_is))

pub returns-in-None : goal.returns-in-None
returns-in-None c =
    sym c.in-None.is
    ∙ (c.get_index_of.ensures.index
    ∙ (number_of-place_in c.self.inside.table.keys c.args.form.now ∙ ap (λ fs. number_of fs c.args.form.now) c.self.view_is))
