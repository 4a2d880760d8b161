-- What is said for an answer is true where the answer is.
use Rattle.std.proofs.Common.{◌≡◌, ℕ, ◌≤◌, Option, Some, None, List, refl, sym, ap, ◌∙◌, subst, arith}
use Rattle.std.proofs.lemmas.Option.{same_Some}
use Rattle.hd_task.specs.declared.task.Task.{Task}
use Rattle.hd_task.specs.Plans.{Node, IsValidAt}
use Rattle.hd_task.specs.Verdicts.{IsOptimal}
use Rattle.hd_task.proofs.Optimal.{goal_plan_valid}
use Rattle.hd_entries.specs.declared.verdict.Verdict.{Verdict}
use Rattle.hd_entries.specs.declared.verdict.Verdict.TheVariants as verdicts
use Rattle.hd_entries.specs.Settling.{BookState}
use Rattle.hd_entries.specs.Answers.{IsAnswerOf, IsTrueAnswer}
use Rattle.hd_world.specs.Moves.{book_bound}
use Rattle.hd_replay.specs.declared.report.Says.{Says}
use Rattle.hd_replay.specs.declared.report.Says.TheVariants.{Optimal, NoPlan, RangeLeft}
use Rattle.hd_replay.specs.Reporting.{IsSaidFor, IsTrueSaid}

-- a plan has one cost
one_cost : (t : Task) (p : List ℕ) (c d : ℕ) → IsValidAt t p c → IsValidAt t p d → c ≡ d
one_cost t p c d v w =
    sym v.costs ∙ (ap (λ (r : Node). r.cost) (same_Some v.end w.end (sym v.executes ∙ w.executes)) ∙ w.costs)

true_cost : (t : Task) (p : List ℕ) (c : ℕ) → IsOptimal t p → IsValidAt t p c → IsTrueSaid t (Optimal c)
true_cost t p c o v =
    let same = one_cost t p o.cost c o.valid v in
    ((p, v), λ q d valid. subst (λ (n : ℕ). n ≤ d) same (o.least q d valid))

pub true_said : (b : BookState) (v : Verdict) (says : Says) → IsAnswerOf b v → IsTrueAnswer b.task v → IsSaidFor b v says → IsTrueSaid b.task says
true_said b (verdicts.Optimal p) says answer truth (cost, bound, is) =
    let plan = answer.1 in
    let same : plan.cost ≡ cost = same_Some plan.cost cost (sym plan.bound ∙ bound) in
    subst (IsTrueSaid b.task) (sym is)
    (true_cost b.task p cost truth (subst (IsValidAt b.task p) same (goal_plan_valid b.task p plan.cost plan.meets)))
true_said b verdicts.NoPlan says answer truth is = subst (IsTrueSaid b.task) (sym is) truth
true_said b (verdicts.RangeLeft d p) says answer truth is = subst (IsTrueSaid b.task) (sym is) tt

-- an optimal plan has a bound
pub no_bound : (b : BookState) (v : Verdict) (p : List ℕ) → IsAnswerOf b v → v ≡ verdicts.Optimal p → book_bound b ≡ None → ⊥
no_bound b v p answer is none =
    let plan = (subst (IsAnswerOf b) is answer).1 in
    let e : Some plan.cost ≡ None = sym plan.bound ∙ none in
    cc
