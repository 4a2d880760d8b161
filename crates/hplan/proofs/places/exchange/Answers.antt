use Rattle.std.proofs.Common.{sym}
use Rattle.hplan.specs.Places.{files_shown}
use Rattle.hplan.proofs.Shelves.{none_there, disk_was, disk_now, others_now}
use Rattle.hplan.proofs.places.exchange.Goals as goal

pub returns-in-Some-clause-before : goal.returns-in-Some-clause-before
returns-in-Some-clause-before c =
    disk_was c.args.name.now c.args.files.now c.in-Some.place c.in-Some.ensures.place c.put_at.result c.in-Some.ensures.within c.put_at.ensures.was

pub returns-in-Some-clause-after : goal.returns-in-Some-clause-after
returns-in-Some-clause-after c =
    disk_now c.args.name.now c.args.files.now c.in-Some.place c.in-Some.ensures.place _ c.args.disk c.in-Some.ensures.within c.put_at.ensures.now

pub returns-in-None-clause-before : goal.returns-in-None-clause-before
returns-in-None-clause-before c = none_there c.args.name.now (files_shown c.args.files.now) (sym c.in-None.ensures.place)

pub returns-in-Some-clause-others : goal.returns-in-Some-clause-others
returns-in-Some-clause-others c =
    others_now c.args.name.now c.args.files.now c.in-Some.place c.in-Some.ensures.place _ c.args.disk c.in-Some.ensures.within c.put_at.ensures.now
