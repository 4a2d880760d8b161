use Rattle.std.proofs.Common.{List, sym, ap, subst}
use Rattle.crossbeam_queue.specs.Passes.{view}
use Rattle.hd_task.specs.declared.task.Task.{Task}
use Rattle.hd_task.specs.declared.plan.Kid.{Kid}
use Rattle.hd_desk.specs.declared.view.View.{View}
use Rattle.hd_book.specs.declared.counts.Counts.{Counts}
use Rattle.hd_threads.specs.Working.{EntersBook}
use Rattle.hd_threads.proofs.Batches.{is_in}
use Rattle.hd_threads.proofs.working.commit_batch.Goals as goal

pub returns-in-Ok-clause-committed : goal.returns-in-Ok-clause-committed
returns-in-Ok-clause-committed g c =
    let before : View Task Kid = view c.args.pass.now in
    let there = is_in before.seen.task before.seen.log c.args.limited.batch.outcomes c.enter-book.result c.commit.new.self c.counts-first.result.entries c.bound-bound.result
    c.enter-book.ensures.task c.enter-book.ensures.begins c.in-Ok.ensures.committed c.in-Ok.ensures.goes_on.task (ap (λ (x : Counts). x.entries) c.counts-first.ensures.counts) c.bound-bound.ensures
    in
    subst (λ (log : List Kid). EntersBook before.seen.task before.seen.log c.args.limited.batch.outcomes log c.counts-first.result.entries c.bound-bound.result)
    (sym (ap (λ (v : View Task Kid). v.seen.log) c.leave-in-Ok.ensures.view)) there
