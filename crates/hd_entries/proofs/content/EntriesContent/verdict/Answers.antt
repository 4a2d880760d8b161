use Rattle.std.proofs.Common.{◌∙◌, sym}
use Rattle.hd_entries.specs.Settling.{expansions}
use Rattle.hd_entries.specs.Holding.{state_of}
use Rattle.hd_entries.proofs.Deciding.{covered_when_full, answer_true}
use Rattle.hd_entries.proofs.content.EntriesContent.verdict.Goals as goal

pub returns-clause-covered : goal.returns-clause-covered
returns-clause-covered c =
    covered_when_full c.args.self.now c.requires.held (sym c.settled.ensures.settled ∙ (c.if-settled-posted.false ∙ c.posted.ensures.posted))

pub returns-clause-is_true : goal.returns-clause-is_true
returns-clause-is_true c =
    let s = c.args.self.now in
    let covered = covered_when_full s c.requires.held (sym c.settled.ensures.settled ∙ (c.if-settled-posted.false ∙ c.posted.ensures.posted)) in
    answer_true s.expanded.task.now (expansions (state_of s)) c.in_ok-answer.field-0 covered c.in_ok-answer.ensures
