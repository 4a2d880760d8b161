use Rattle.hd_open.proofs.Marking.{marks_more}
use Rattle.hd_open.proofs.slots.cover_words.Goals as goal

pub returns-in_ok-push-clause-marked : goal.returns-in_ok-push-clause-marked
returns-in_ok-push-clause-marked g c =
    marks_more c.args.slots.now c.args.words.now.items c.push.new.self.items c.requires.marked c.in_ok-push.ensures.items
