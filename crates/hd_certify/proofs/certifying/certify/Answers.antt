use Rattle.std.proofs.Common.{ap}
use Rattle.hd_entries.specs.Holding.{EntriesView}
use Rattle.hd_certify.proofs.Showing.{certificate_of, if_certificate_true}
use Rattle.hd_certify.proofs.certifying.certify.Goals as goal

pub returns-clause-shows : goal.returns-clause-shows
returns-clause-shows c =
    let held = c.in_ok-gathered.ensures in
    certificate_of c.args.task.now c.args.most c.requires c.args.entries.now held.within held.faultless c.in_ok-gathered.gathered.entries.state
    (ap (λ (h : EntriesView). h.state) held.entries)
    c.in_ok-shown.field-0 c.in_ok-shown.ensures

pub returns-clause-is_true : goal.returns-clause-is_true
returns-clause-is_true c =
    let held = c.in_ok-gathered.ensures in
    if_certificate_true c.args.task.now c.args.entries.now c.in_ok-shown.field-0
    (certificate_of c.args.task.now c.args.most c.requires c.args.entries.now held.within held.faultless c.in_ok-gathered.gathered.entries.state
    (ap (λ (h : EntriesView). h.state) held.entries)
    c.in_ok-shown.field-0 c.in_ok-shown.ensures)
