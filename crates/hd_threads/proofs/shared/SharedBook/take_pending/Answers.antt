use Rattle.std.proofs.Common.{◌∙◌}
use Rattle.hd_threads.proofs.Steps.{taken_at}
use Rattle.hd_threads.proofs.shared.SharedBook.take_pending.Goals as goal

pub returns-clause-group : goal.returns-clause-group
returns-clause-group g c =
    taken_at c.take_pending.result c.self.inside.book c.take_pending.new.self c.args.share.now.amount (c.audit.ensures.whole c.requires.whole ∙ c.self.invariant)
    c.take_pending.ensures.taken c.take_pending.ensures.group
