use Rattle.hd_ground.proofs.Limits.{numbers_atoms}
use Rattle.hd_ground.proofs.counting.atoms_of.Goals as goal

pub returns-clause-numbers : goal.returns-clause-numbers
returns-clause-numbers c =
    numbers_atoms c.args.task.now c.args.reached.now c.in_ok-forms.forms c.in_ok-of.field-0 c.requires c.in_ok-forms.ensures c.in_ok-of.ensures.exactly
