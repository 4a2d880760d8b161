use Rattle.hd_journal.proofs.Wholes.{appended_is_of, appended_kids, appended_moments, not_appended_kids, not_appended_moments, appended_settled}
use Rattle.hd_journal.proofs.journal.Journal.append.Goals as goal

pub returns-in-Ok-clause-whole : goal.returns-in-Ok-clause-whole
returns-in-Ok-clause-whole g c = λ digest groups is.
    appended_is_of digest groups c.args.group c.args.self.now c.put.new.self c.in-Ok.ensures.group is c.in-Ok.ensures.appended

pub returns-in-Ok-clause-moments : goal.returns-in-Ok-clause-moments
returns-in-Ok-clause-moments g c = λ digest groups is settled.
    appended_moments digest groups c.args.group c.args.self.now c.put.new.self is settled c.in-Ok.ensures.appended

pub returns-in-Ok-clause-settled : goal.returns-in-Ok-clause-settled
returns-in-Ok-clause-settled g c = appended_settled c.args.group c.args.self.now c.put.new.self c.in-Ok.ensures.appended

pub returns-in-Err-clause-moments : goal.returns-in-Err-clause-moments
returns-in-Err-clause-moments g c = λ digest groups is settled.
    not_appended_moments digest groups c.args.group c.args.self.now c.put.new.self c.in-Err.error is settled c.in-Err.ensures.refused

pub returns-in-Ok-clause-kids : goal.returns-in-Ok-clause-kids
returns-in-Ok-clause-kids g c = appended_kids c.args.group c.args.self.now c.put.new.self c.in-Ok.ensures.appended

pub returns-in-Err-clause-same_kids : goal.returns-in-Err-clause-same_kids
returns-in-Err-clause-same_kids g c = not_appended_kids c.args.group c.args.self.now c.put.new.self c.in-Err.error c.in-Err.ensures.refused
