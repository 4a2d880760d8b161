use Rattle.std.proofs.Common.{length, sym, ◌∙◌}
use Rattle.std.proofs.lemmas.Bool.{eqb-true}
use Rattle.hd_journal.proofs.Joining.{nil_from_length, appends_none, appends_more, breaks_more, breaks_first, fit_behind}
use Rattle.hd_journal.proofs.grouping.append_all.Goals as goal

pub loop-rest-preserved : goal.loop-rest-preserved
loop-rest-preserved g c =
    let old = c.loop-rest.journal in
    let mid = c.append_group.new.journal in
    let kids = c.first_group.result.0.now in
    let after = c.first_group.result.1.now in
    let all = c.loop-rest.rest.now in
    let joined = c.first_group.ensures.joined in
    let first = c.in-Ok.ensures.appended in
    record {
      fit = fit_behind old.version mid.version kids after all joined first.version c.loop-rest.invariant.fit;
      running = first.running;
      appended = λ new more. c.loop-rest.invariant.appended new (appends_more old mid new kids after all joined c.first_group.ensures.full first more);
      refused = λ error new more. c.loop-rest.invariant.refused error new (breaks_more old mid new kids after all error joined first more);
    }

pub returns-in-Err-clause-refused : goal.returns-in-Err-clause-refused
returns-in-Err-clause-refused g c =
    let new = c.append_group.new.journal in
    c.loop-rest.invariant.refused c.in-Err.error new
    (breaks_first c.loop-rest.journal new c.first_group.result.0.now c.first_group.result.1.now c.loop-rest.rest.now c.in-Err.error
    c.first_group.ensures.joined c.in-Err.ensures.refused)

pub returns-clause-appended : goal.returns-clause-appended
returns-clause-appended g c =
    let kids = c.loop-rest.rest.now in
    let none = eqb-true (length kids) 0 (sym c.is_empty.ensures ∙ c.loop-rest-test.false) in
    c.loop-rest.invariant.appended c.loop-rest.journal
    (appends_none c.loop-rest.journal kids (nil_from_length kids none) c.loop-rest.invariant.running)
