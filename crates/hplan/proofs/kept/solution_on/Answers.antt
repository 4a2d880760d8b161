use Rattle.std.proofs.Common.{◌≡◌, List, ◌∙◌, sym, ap, subst}
use Rattle.hd_task.specs.declared.plan.Kid.{Kid}
use Rattle.hd_store.specs.Device.{content_of}
use Rattle.hd_journal.specs.Journal.{device_of}
use Rattle.hplan.specs.Answer.{IsSolution}
use Rattle.hplan.specs.PlanText.{printed}
use Rattle.hplan.specs.Kept.{HoldsEntries, HasNoSolution}
use Rattle.hplan.proofs.Keeping.{not_begun, solved_on, unsolved_on, failed_behind, answer_stands, fault_stands}
use Rattle.hplan.proofs.Stops.{has_while_searched, has_throughout}
use Rattle.hplan.proofs.kept.solution_on.Goals as goal

pub returns-in-Ok-clause-found : goal.returns-in-Ok-clause-found
returns-in-Ok-clause-found g c =
    let before = content_of (g.S.Store.device c.args.store) in
    let after = content_of (g.S.Store.device c.looked_again.result.0) in
    let left : content_of (device_of c.solution_of-found.new.journal) ≡ after = sym (c.looked_again.ensures.same ∙ ap content_of c.into_store.ensures) in
    answer_stands c.solution_of-found.result c.looked_again.result.1
    (λ told. (kids : List Kid) × IsSolution c.args.how.limit c.args.task.now kids told.ending (printed told.plan) × HoldsEntries c.args.start c.args.digest.now kids before after)
    c.looked_again.ensures.stands
    (solved_on c.args.start c.args.how.limit c.args.task.now c.args.digest.now before after c.in-Ok.journal c.solution_of-found.new.journal
    c.solution_of-found.result c.in-Ok.ensures.begun left c.solution_of-found.ensures.found c.solution_of-found.ensures.grows)

pub returns-in-Ok-clause-refusal : goal.returns-in-Ok-clause-refusal
returns-in-Ok-clause-refusal g c =
    let before = content_of (g.S.Store.device c.args.store) in
    let after = content_of (g.S.Store.device c.looked_again.result.0) in
    let left : content_of (device_of c.solution_of-found.new.journal) ≡ after = sym (c.looked_again.ensures.same ∙ ap content_of c.into_store.ensures) in
    fault_stands c.solution_of-found.result c.looked_again.result.1 (HasNoSolution c.args.start c.args.task.now c.args.digest.now before after)
    c.looked_again.ensures.stands
    (unsolved_on c.args.start c.args.task.now c.args.digest.now before after c.in-Ok.journal c.solution_of-found.new.journal
    c.solution_of-found.result c.in-Ok.ensures.begun c.solution_of-found.ensures.survives left c.solution_of-found.ensures.refusal)
    (failed_behind c.args.start c.args.task.now c.args.digest.now before after c.in-Ok.journal c.solution_of-found.new.journal
    c.in-Ok.ensures.begun c.solution_of-found.ensures.survives left)

pub returns-in-Err-clause-refusal : goal.returns-in-Err-clause-refusal
returns-in-Err-clause-refusal g c =
    let before = content_of (g.S.Store.device c.args.store) in
    let after = content_of (g.S.Store.device c.in-Err.store) in
    subst (HasNoSolution c.args.start c.args.task.now c.args.digest.now before after) (sym c.journal_in.ensures)
    (not_begun c.args.start c.args.task.now c.args.digest.now before after c.in-Err.error c.in-Err.ensures.refused)

pub returns-in-Ok-clause-moments : goal.returns-in-Ok-clause-moments
returns-in-Ok-clause-moments g c = λ v groups next kept stopped.
    let settled = c.in-Ok.ensures.settled stopped.settled in
    let searched =
    has_while_searched v c.args.digest.now groups c.args.task.now c.in-Ok.journal c.solution_of-found.new.journal
    c.solution_of-found.ensures.survives settled next _ stopped
    (λ all stand. c.in-Ok.ensures.groups v all kept stand)
    in
    has_throughout v c.args.digest.now groups _ _ _ _ (c.in-Ok.ensures.moments v groups next kept stopped) searched
    (record {
      start = c.looked_again.ensures.past.start ∙ ap (λ d. d.start) c.into_store.ensures;
      steps = c.looked_again.ensures.past.steps ∙ ap (λ d. d.steps) c.into_store.ensures;
    })
