use Rattle.hd_forms.proofs.Written.{marks_written-finish}
use Rattle.hd_forms.proofs.forms.finish.Goals as goal

pub returns-clause-written : goal.returns-clause-written
returns-clause-written c = λ os.
    rw (c.in_ok-push_list.ensures.pushed, c.replace.ensures.after, ← c.replace.ensures.value, ← c.in_ok-inside.ensures)
    (marks_written-finish os c.args.last c.in_ok-inside.inside c.args.at)
