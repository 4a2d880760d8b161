use Rattle.hplan.proofs.Certificates.{optimal_told}
use Rattle.hplan.proofs.text.verdict_text.Goals as goal

pub returns-in-Some : goal.returns-in-Some
returns-in-Some c =
    optimal_told (λ v. v.items) c.args.task.now c.in-Optimal.plan _ c.in-Some.cost c.args.verdict.now c.optimal_text.result c.in-Optimal.is c.in-Some.is
    c.in_ok-cost-in-Optimal.ensures c.optimal_text.ensures
