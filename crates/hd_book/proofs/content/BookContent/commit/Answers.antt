use Rattle.std.proofs.Common.{ℕ, ◌-◌, ◌<◌, ◌≤◌, ◌∙◌, List, length, sym, ap, ap₂, subst, arith}
use Rattle.std.specs.Prelude.{flat_map}
use Rattle.std.specs.List.{AllByRecursion}
use Rattle.std.proofs.lemmas.List.{length-append}
use Rattle.hd_task.specs.declared.plan.Kid.{Kid}
use Rattle.hd_task.specs.declared.plan.TheConstants.{ROOT_PARENT}
use Rattle.hd_task.specs.declared.task.Task.{Task}
use Rattle.hd_entries.specs.Holding.{released_by}
use Rattle.hd_entries.specs.Settling.{BookState, IsOutcomeOfTask, all_settled, entry_of}
use Rattle.hd_book.specs.TicketSteps.{entered}
use Rattle.hd_entries.specs.Releasing.{ParcelsView}
use Rattle.hd_book.specs.View.{BookView}
use Rattle.hd_book.proofs.Held.{few_entries, held_entered, held_again}
use Rattle.hd_book.proofs.Releasing.{batch_goes, goes_to}
use Rattle.hd_book.proofs.content.BookContent.commit.Goals as goal

pub enter-requires-clause-few : goal.enter-requires-clause-few
enter-requires-clause-few c =
    let os = c.args.batch.outcomes in
    let grown = ap (λ (ks : List Kid). length ks) c.in-Ok.ensures.grown ∙ length-append c.self.inside.entries.state.entries (flat_map entry_of os) in
    let after = c.len.ensures.len in
    let before = c.len-before.ensures.len in
    let few : length os ≤ 1024 = c.args.batch.few in
    let result : c.len.result - c.len-before.result ≤ 65536 = omega (arith, grown, after, before, few, few_entries os) in
    result

pub invariant_of-self-in-Ok : goal.invariant_of-self-in-Ok
invariant_of-self-in-Ok c =
    let e = c.self.inside.entries in
    let os = c.args.batch.outcomes in
    let count = c.len.result - c.len-before.result in
    let grown = ap (λ (ks : List Kid). length ks) c.in-Ok.ensures.grown ∙ length-append e.state.entries (flat_map entry_of os) in
    let after = c.len.ensures.len in
    let before = c.len-before.ensures.len in
    let some : 1 ≤ length os = c.args.batch.some in
    let short : length (all_settled e.state os).entries < ROOT_PARENT =
    subst (λ (s : BookState). length s.entries < ROOT_PARENT) c.in-Ok.ensures.state (omega (arith, after, c.len.ensures.numbered)) in
    let own = subst (λ (v : BookView). AllByRecursion (IsOutcomeOfTask v.state.task) os) (sym c.self.view_is) c.requires in
    let goes = goes_to e c.commit.new.self os c.in-Ok.ensures.state (batch_goes e os c.len-before.ensures.kept own c.in-Ok.ensures.accepted short) in
    held_entered e c.commit.new.self c.self.inside.tickets.batches c.enter.new.self.batches os count c.of-released.result
    c.self.invariant
    goes
    c.in-Ok.ensures.task
    (omega (arith, grown, after, before))
    c.in-Ok.ensures.settled
    some
    (c.of-released.ensures ∙ ap₂ (λ (t : Task) (n : ℕ). let p : ParcelsView = record { task = t; kids = released_by n os } in p) (c.task.ensures ∙ c.in-Ok.ensures.task) before)
    (c.enter.ensures.entered ∙ ap (entered count c.of-released.result) c.make_room.ensures.same)

pub invariant_of-self-in-Err-commit : goal.invariant_of-self-in-Err-commit
invariant_of-self-in-Err-commit c =
    held_again c.self.inside.entries c.commit.new.self c.self.inside.tickets.batches c.make_room.new.tickets.batches c.self.invariant c.in-Err-commit.ensures.err c.make_room.ensures.same
