use Rattle.std.proofs.Common.{[], sym, ap, subst, ◌∙◌, arith}
use Rattle.hd_task.specs.declared.task.Task.{Task}
use Rattle.hd_worker.specs.Lookup.{IsLookupOf}
use Rattle.hd_book.specs.declared.counts.Counts.{Counts}
use Rattle.hd_recovery.specs.Recovered.{nodes_before, team, AreOfTask}
use Rattle.hd_recovery.proofs.Opening.{all_nodes}
use Rattle.hd_recovery.proofs.Teams.{team_of_task}
use Rattle.hd_recovery.proofs.handing.open_all.Goals as goal

pub estimate_open-requires-clause-of_task : goal.estimate_open-requires-clause-of_task
estimate_open-requires-clause-of_task g c =
    subst (λ (t : Task). AreOfTask t c.loop-from.workers.items) (sym c.task.ensures)
    (team_of_task c.args.book.now.state.task c.args.count c.requires.team.0 (nodes_before c.args.book.now.state c.loop-from.from) c.loop-from.workers.items
    (c.loop-from.invariant.team c.requires.team.0 c.requires.team.1))

pub open_between-requires-clause-team : goal.open_between-requires-clause-team
open_between-requires-clause-team g c =
    (c.requires.team.0, c.estimate_open.ensures.same ∙ c.loop-from.invariant.team c.requires.team.0 c.requires.team.1)

pub loop-from-preserved : goal.loop-from-preserved
loop-from-preserved g c = record {
  lookup = subst (λ (t : Task). IsLookupOf t c.estimate_open.new.lookup) c.task.ensures c.estimate_open.ensures.lookup;
  order = omega (arith, c.loop-from.invariant.order, c.min.ensures);
  team = λ closed is. c.in_ok-open_between.ensures closed (c.estimate_open.ensures.same ∙ c.loop-from.invariant.team closed is);
}

pub returns : goal.returns
returns g c = λ closed is.
    let b = c.args.book.now.state in
    let posted = ap (λ (x : Counts). x.posted) c.counts-posted.ensures.counts in
    c.loop-from.invariant.team closed is
    ∙ ap (team b.task c.args.count closed) (all_nodes b c.counts-posted.ensures.kept c.requires.again c.loop-from.from (omega (arith, c.loop-from-test.false, posted)))
