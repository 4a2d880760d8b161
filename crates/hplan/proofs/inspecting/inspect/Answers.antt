use Rattle.std.proofs.Common.{subst}
use Rattle.hd_plan.specs.Output.{AppendsShort}
use Rattle.hplan.proofs.Inspections.{inspection_fails}
use Rattle.hplan.proofs.inspecting.inspect.Goals as goal

pub returns-in-Err-clause-refusal : goal.returns-in-Err-clause-refusal
returns-in-Err-clause-refusal g c =
    inspection_fails (g.P.Places.file_of c.args.places.now c.args.name.now) _ _ _ _ _ _ c.in_ok-text.ensures.told
    (subst (AppendsShort _ _) c.deref.ensures.value c.in-Err.ensures.short) c.in-Err.ensures.fault
