use Rattle.std.proofs.Common.{sym, subst}
use Rattle.hd_image.specs.Image.{IsGroup}
use Rattle.hd_journal.proofs.Joining.{is_group, breaks_early}
use Rattle.hd_journal.proofs.grouping.append_group.Goals as goal

pub append_owned-requires-clause-group : goal.append_owned-requires-clause-group
append_owned-requires-clause-group g c =
    subst (IsGroup c.args.journal.now.version) (sym c.in-Ok.ensures.kids)
    (is_group c.args.journal.now.version c.args.kids.now c.requires.some c.requires.most c.requires.fit c.in-Ok.ensures.actions)

pub returns-in-Err-clause-refused : goal.returns-in-Err-clause-refused
returns-in-Err-clause-refused g c = breaks_early c.args.journal.now c.args.kids.now
