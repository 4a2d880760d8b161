use Rattle.hplan.proofs.Inspections.{file_unread, content_untold}
use Rattle.hplan.proofs.inspecting.told_of_file.Goals as goal

pub returns-in-Err-clause-refusal : goal.returns-in-Err-clause-refusal
returns-in-Err-clause-refusal g c =
    file_unread (g.P.Places.file_of c.args.places.now c.args.name.now) _ (_, c.device_fault.ensures, c.in-Err.ensures.missed)

pub returns-clause-refusal : goal.returns-clause-refusal
returns-clause-refusal g c =
    content_untold (g.P.Places.file_of c.args.places.now c.args.name.now) c.in-Ok.content.items _ c.inspection_of_content-told.result c.in-Ok.ensures.bytes
    c.deref.ensures.value c.inspection_of_content-told.ensures.refusal
