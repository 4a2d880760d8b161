use Rattle.std.proofs.Common.{sym, subst}
use Rattle.hd_judge.specs.Fault.{StopsBy}
use Rattle.hd_judge.specs.Tables.{reached_in}
use Rattle.hd_judge.specs.Validity.{TellsStep}
use Rattle.hd_judge.proofs.Judged.{refusal_told}
use Rattle.hd_judge.proofs.judging.judge_step.Goals as goal

pub returns-in-Err-clause-tells : goal.returns-in-Err-clause-tells
returns-in-Err-clause-tells c =
    let t = c.args.lookups.now in
    let r = reached_in c.args.place.now in
    let i = c.args.instance.now in
    subst (StopsBy (TellsStep t r c.args.number i)) (sym c.stop_of.ensures)
    (refusal_told t r (reached_in c.explain_step.new.place) c.args.number i c.in-Err.refusal c.in-Err.ensures.refuses)
