use Rattle.hd_image.specs.declared.entry.TheConstants.{MAX_GROUP}
use Rattle.hd_journal.proofs.Joining.{full_or_last}
use Rattle.hd_journal.proofs.grouping.first_group.Goals as goal

pub returns-clause-full : goal.returns-clause-full
returns-clause-full c =
    full_or_last c.min.result MAX_GROUP c.args.kids.now _ _ c.split_at.ensures.front c.split_at.ensures.back c.min.ensures
