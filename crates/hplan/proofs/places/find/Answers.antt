use Rattle.std.proofs.Common.{sym}
use Rattle.hplan.specs.Places.{files_shown}
use Rattle.hplan.proofs.Shelves.{none_there, disk_read}
use Rattle.hplan.proofs.places.find.Goals as goal

pub returns-in-Some : goal.returns-in-Some
returns-in-Some c =
    disk_read c.args.name.now c.args.files.now c.in-Some.place c.in-Some.ensures.place c.index-files-place.result _ c.in-Some.ensures.within
    c.bytes.ensures

pub returns-in-None : goal.returns-in-None
returns-in-None c = sym (none_there c.args.name.now (files_shown c.args.files.now) (sym c.in-None.ensures.place))
