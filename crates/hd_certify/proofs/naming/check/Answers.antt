use Rattle.hd_certify.proofs.Numbered.{legal, numbered}
use Rattle.hd_certify.proofs.naming.check.Goals as goal

pub returns-in-Ok-clause-legal : goal.returns-in-Ok-clause-legal
returns-in-Ok-clause-legal c =
    legal c.args.task.now c.args.most c.args.entries.now c.requires c.in-Ok.ensures.within c.in-Ok.ensures.faultless

pub returns-in-Ok-clause-numbered : goal.returns-in-Ok-clause-numbered
returns-in-Ok-clause-numbered c = λ limit few.
    numbered c.args.task.now c.args.most limit c.args.entries.now c.in-Ok.ensures.within c.in-Ok.ensures.faultless few
