use Rattle.hd_forms.proofs.Written.{marks_written-word}
use Rattle.hd_forms.proofs.forms.add.Goals as goal

pub returns-clause-written : goal.returns-clause-written
returns-clause-written c = λ os. rw c.in_ok-push.ensures.items (marks_written-word os c.args.forms.now.items c.args.at c.args.word)
