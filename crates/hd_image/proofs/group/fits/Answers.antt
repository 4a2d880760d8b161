use Rattle.std.proofs.Common.{sym, ◌∙◌}
use Rattle.hd_image.proofs.Numbering.{all_told}
use Rattle.hd_image.proofs.group.fits.Goals as goal

pub returns-clause-told : goal.returns-clause-told
returns-clause-told c = λ fit. all_told c.args.version c.args.kids.now (sym c.all_fit.ensures ∙ fit)
