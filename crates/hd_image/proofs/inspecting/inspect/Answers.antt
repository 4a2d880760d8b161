use Rattle.std.proofs.Common.{subst}
use Rattle.hd_image.specs.Reading.{IsFound}
use Rattle.hd_image.proofs.Counting.{summed, refused_any}
use Rattle.hd_image.proofs.inspecting.inspect.Goals as goal

pub returns-in-Ok-Journal-clause-inspected : goal.returns-in-Ok-Journal-clause-inspected
returns-in-Ok-Journal-clause-inspected c =
    let e = c.summary_of.ensures in
    let found = subst (IsFound c.digest_in-digest.result c.args.content.now) c.in-Ok-Journal.field-0-is c.in-Ok-Journal.ensures.found in
    summed c.args.content.now c.digest_in-digest.result c.in-Ok-Journal.found c.summary_of.result found e.version e.digest e.entries e.groups e.behind

pub returns-in-Err-clause-refused : goal.returns-in-Err-clause-refused
returns-in-Err-clause-refused c =
    refused_any c.args.content.now c.digest_in-digest.result c.digest_in-digest.ensures c.in-Err.error c.in-Err.ensures.refused
