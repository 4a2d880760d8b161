use Rattle.std.proofs.Common.{◌≡◌, ◌+◌, ◌++◌, ◌∷◌, [], List, Option, map, length, ap, ◌∙◌, subst, arith}
use Rattle.hd_node.specs.declared.batch.Outcome.{Outcome}
use Rattle.hd_entries.specs.Holding.{parcel_of}
use Rattle.hd_turns.specs.Worker.{WorkerView}
use Rattle.hd_worker.specs.Frontier.{SettlesBest}
use Rattle.hd_worker.proofs.Turned.{expanded_best}
use Rattle.hd_worker.proofs.worker.Worker.expand_best.Goals as goal

pub returns-in-Some-clause-ok : goal.returns-in-Some-clause-ok
returns-in-Some-clause-ok c =
    let i = c.self.inside in
    let w = c.args.self.now in
    let o = c.in-Some.outcome in
    let place = c.next_place-place.result in
    let named : place ≡ length i.given.items + length i.outcomes.items =
    omega (arith, c.next_place-place.ensures, i.given.ok.0, c.reserve.new.self.ok.0, ap (λ (os : List Outcome). length os) c.reserve.ensures.items)
    in
    expanded_best i.task.now i.id i.workers i.given.items (map parcel_of i.outbox.items) i.seen i.lent i.frontier c.settle_best.new.self i.outcomes.items c.push_outcome.new.outcomes.items w place o w.task
    c.self.view_is
    (c.self.invariant.of_task ∙ ap (λ (x : WorkerView). x.task) c.self.view_is)
    named
    (c.push_outcome.ensures ∙ ap (λ (os : List Outcome). os ++ o ∷ []) c.reserve.ensures.items)
    (subst (λ (x : Option Outcome). SettlesBest i.frontier.task i.seen place i.frontier x c.settle_best.new.self) c.in-Some.is c.in_ok-outcome.ensures.settles)
