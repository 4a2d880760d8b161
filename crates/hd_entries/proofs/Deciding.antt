-- Where all is settled, the answer is true.
use Rattle.std.proofs.Common.{◌≡◌, ℕ, Bool, true, false, cond, Option, Some, None, List, [], ◌∷◌, length, All, refl, sym, ap, ◌∙◌, arith}
use Rattle.std.specs.List.{count_by}
use Rattle.std.proofs.lemmas.List.Sums.{sum_by-cons, count_by-le-length}
use Rattle.std.proofs.lemmas.List.Elements.{All-nil, All-cons}
use Rattle.hd_task.specs.declared.task.Task.{Task}
use Rattle.hd_task.specs.Expansions.{generated}
use Rattle.hd_task.specs.Covers.{IsCovered}
use Rattle.hd_hmax.specs.Rounds.{hmax}
use Rattle.hd_task.proofs.Optimal.{each_optimal, no_plan, goal_plan_valid}
use Rattle.hd_hmax.proofs.Admissible.{hmax_admissible}
use Rattle.hd_entries.specs.declared.content.EntriesContent.{EntriesContent}
use Rattle.hd_entries.specs.declared.verdict.Verdict.{Verdict}
use Rattle.hd_entries.specs.declared.verdict.Verdict.TheVariants.{Optimal, NoPlan, RangeLeft}
use Rattle.hd_entries.specs.Settling.{expansions}
use Rattle.hd_entries.specs.Holding.{settled_count, state_of, IsHeld}
use Rattle.hd_entries.specs.Answers.{IsAnswer, IsBoundPlanOf, IsValidPlan, IsTrueAnswer}
use Rattle.hd_entries.proofs.Marking.{all_marked}

-- where as many marks are set as there are, all are
all_set : (marks : List Bool) → count_by (λ (m : Bool). m) marks ≡ length marks → All (λ m. m ≡ true) marks
all_set [] e = All-nil (λ m. m ≡ true)
all_set (m ∷ marks) e =
    let sum = sum_by-cons (λ (m : Bool). let n : ℕ = cond m 1 0 in n) m marks in
    let few = count_by-le-length (λ m. m) marks in
    elim m as (λ b. m ≡ b → All (λ m. m ≡ true) (m ∷ marks)) [
      | true ↦ λ is.
          let one = ap (λ (b : Bool). let n : ℕ = cond b 1 0 in n) is in
          All-cons (λ m. m ≡ true) m marks is (all_set marks (omega (arith, e, sum, one)))
      | false ↦ λ is. let none = ap (λ (b : Bool). let n : ℕ = cond b 1 0 in n) is in absurd (omega (arith, e, sum, none, few))
    ] refl

pub covered_when_full : (c : EntriesContent) → IsHeld c → settled_count (state_of c) ≡ length (generated c.expanded.task.now (expansions (state_of c))) → IsCovered c.expanded.task.now (hmax c.expanded.task.now) (expansions (state_of c))
covered_when_full c h e =
    all_marked c.expanded.task.now (hmax c.expanded.task.now) (expansions (state_of c)) (state_of c).marks h.kept.marked (all_set (state_of c).marks (e ∙ sym h.kept.marked.one_each))

pub answer_true : (t : Task) (expanded : List (List ℕ)) (v : Verdict) → IsCovered t (hmax t) expanded → IsAnswer t expanded v → IsTrueAnswer t v
answer_true t expanded (Optimal p) covered a =
    each_optimal t (hmax t) (hmax_admissible t) expanded a.0 covered a.1.cost a.1.bound p a.1.meets
answer_true t expanded NoPlan covered a =
    no_plan t (hmax t) (hmax_admissible t) expanded a.0 covered a.1
answer_true t expanded (RangeLeft d None) covered a = tt
answer_true t expanded (RangeLeft d (Some p)) covered a = (a.1.cost, goal_plan_valid t p a.1.cost a.1.meets)

-- the plan of the bound is valid
pub bound_plan_valid : (t : Task) (expanded : List (List ℕ)) (p : Option (List ℕ)) → IsBoundPlanOf t expanded p → IsValidPlan t p
bound_plan_valid t expanded None at = tt
bound_plan_valid t expanded (Some p) at = (at.cost, goal_plan_valid t p at.cost at.meets)
