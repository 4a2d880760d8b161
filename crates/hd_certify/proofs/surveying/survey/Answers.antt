use Rattle.std.proofs.Common.{ap}
use Rattle.hd_entries.specs.Holding.{EntriesView}
use Rattle.hd_certify.proofs.Surveys.{survey_is}
use Rattle.hd_certify.proofs.surveying.survey.Goals as goal

pub returns-clause-tells : goal.returns-clause-tells
returns-clause-tells c =
    let held = c.in_ok-gathered.ensures in
    let told = c.in_ok-told.ensures in
    survey_is c.args.task.now c.args.most c.requires c.args.entries.now held.within held.faultless c.in_ok-gathered.gathered.entries.state (ap (λ (h : EntriesView). h.state) held.entries)
    c.in_ok-told.field-0 told.bound told.plan told.posted told.settled told.departure told.depths told.costs told.totals
