use Rattle.std.proofs.Common.{◌∙◌, sym, subst}
use Rattle.hd_base.proofs.Lists.{nil_from_slice_get}
use Rattle.hd_task.specs.Expansions.{departures_of}
use Rattle.hd_entries.specs.Settling.{expansions}
use Rattle.hd_entries.specs.Holding.{state_of}
use Rattle.hd_entries.specs.Answers.{IsBoundPlanOf}
use Rattle.hd_entries.proofs.content.EntriesContent.answer.Goals as goal

pub returns-in-None-Some : goal.returns-in-None-Some
returns-in-None-Some c =
    let s = c.args.self.now in
    let E = expansions (state_of s) in
    (nil_from_slice_get (departures_of s.expanded.task.now E) (sym c.requires.held.plans.departure_is ∙ c.in-None-Some.is-0), subst (IsBoundPlanOf s.expanded.task.now E) c.in-None-Some.is-1 c.in_ok-plan.ensures)

pub returns-in-None-None : goal.returns-in-None-None
returns-in-None-None c =
    let s = c.args.self.now in
    let E = expansions (state_of s) in
    (nil_from_slice_get (departures_of s.expanded.task.now E) (sym c.requires.held.plans.departure_is ∙ c.in-None-None.is-0), subst (IsBoundPlanOf s.expanded.task.now E) c.in-None-None.is-1 c.in_ok-plan.ensures)
