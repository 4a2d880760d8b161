use Rattle.std.proofs.lemmas.Result.{IfOk-weaker}
use Rattle.hd_entries.specs.Settling.{expansions}
use Rattle.hd_entries.specs.Holding.{state_of}
use Rattle.hd_entries.specs.Answers.{IsBoundPlanOf, IsValidPlan}
use Rattle.hd_entries.proofs.Deciding.{bound_plan_valid}
use Rattle.hd_entries.proofs.content.EntriesContent.extract.Goals as goal

pub returns-clause-valid : goal.returns-clause-valid
returns-clause-valid c =
    let t = c.args.self.now.expanded.task.now in
    let E = expansions (state_of c.args.self.now) in
    IfOk-weaker c.best_plan.result (IsBoundPlanOf t E) (IsValidPlan t) (bound_plan_valid t E) c.best_plan.ensures
