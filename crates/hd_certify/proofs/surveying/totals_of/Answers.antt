use Rattle.std.proofs.Common.{◌≡◌, ℕ, List, ◌+◌, ◌<◌, ◌++◌, append-nil, take, length, ap, sym, ◌∙◌, arith}
use Rattle.hd_entries.specs.Settling.{expansions}
use Rattle.hd_certify.specs.Survey.{listed, totals_of}
use Rattle.hd_certify.proofs.Meeting.{begins_on}
use Rattle.hd_certify.proofs.Surveys.{totals_more, all_totals}
use Rattle.hd_certify.proofs.surveying.totals_of.Goals as goal
use Rattle.hd_certify.proofs.surveying.totals_of.Goals.{in-Some+in_ok-push, in_default}

pub loop-number-preserved : goal.loop-number-preserved
loop-number-preserved c =
    let b = c.args.entries.now.state in
    let n = c.loop-number.number in
    let before = c.loop-number.invariant in
    let lt : n < length b.entries = omega (arith, c.loop-number-test.true, c.len-number-end.ensures.len) in
    let more : c.loop-number.totals.items ++ listed c.in_ok-total.field-0 ≡ totals_of b.task (take (n + 1) (expansions b)) =
    totals_more b c.requires.kept n c.in_ok-total.field-0 c.loop-number.totals.items lt before.totals c.in_ok-total.ensures.total in
    record {
      closed_task = c.entry_total.ensures.closed_task ∙ before.closed_task;
      begins = begins_on c.args.closed.now.states c.loop-number.closed.states c.entry_total.new.closed.states before.begins c.entry_total.ensures.begins;
      closed = c.entry_total.ensures.closed ∙ before.closed;
      estimates_task = c.entry_total.ensures.estimates_task ∙ before.estimates_task;
      totals =
          elim c.match-branch-2.branch [
            | in-Some+in_ok-push w ↦
                ap (λ v. v.items) w.totals-is
                ∙ (w.in_ok-push.ensures.items
                ∙ (ap (λ (xs : List ℕ). c.loop-number.totals.items ++ xs) (ap listed (sym w.in-Some.is)) ∙ more))
            | in_default w ↦
                ap (λ v. v.items) w.totals-is
                ∙ (sym (append-nil c.loop-number.totals.items)
                ∙ (ap (λ (xs : List ℕ). c.loop-number.totals.items ++ xs) (ap listed (sym w.in_default.is)) ∙ more))
          ];
    }

pub returns-clause-totals : goal.returns-clause-totals
returns-clause-totals c =
    all_totals c.args.entries.now.state c.requires.kept c.loop-number.number c.loop-number.totals.items
    (omega (arith, c.loop-number-test.false, c.len-number-end.ensures.len)) c.loop-number.invariant.totals
