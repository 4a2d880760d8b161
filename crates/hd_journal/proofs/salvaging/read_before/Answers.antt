use Rattle.std.proofs.Common.{◌∙◌}
use Rattle.hd_journal.proofs.Fronts.{found_before, lost_before}
use Rattle.hd_journal.proofs.salvaging.read_before.Goals as goal

pub returns-clause-found : goal.returns-clause-found
returns-clause-found c =
    found_before c.args.digest.now c.args.content.items c.deref.result.now c.args.at c.requires (c.deref.ensures.value ∙ c.close_at.ensures)
    c.read-found.result c.read-found.ensures.found

pub returns-clause-refused : goal.returns-clause-refused
returns-clause-refused c =
    lost_before c.args.digest.now c.args.content.items c.deref.result.now c.args.at c.requires (c.deref.ensures.value ∙ c.close_at.ensures)
    c.read-found.result c.read-found.ensures.refused
