-- What a run answers is true.
use Rattle.std.proofs.Common.{◌≡◌, ℕ, Bool, true, false, cond, List, [], ◌∷◌, length, All, refl, sym, ap, ◌∙◌, subst, arith}
use Rattle.std.specs.List.{count_by}
use Rattle.std.proofs.lemmas.Bool.{eqb-true}
use Rattle.std.proofs.lemmas.List.Sums.{sum_by-cons, count_by-le-length}
use Rattle.std.proofs.lemmas.List.Elements.{All-nil, All-cons}
use Rattle.hd_task.specs.declared.task.Task.{Task}
use Rattle.hd_hmax.specs.Rounds.{hmax}
use Rattle.hd_entries.specs.Settling.{BookState, IsBookKept, expansions}
use Rattle.hd_entries.specs.Holding.{settled_count, posted_count}
use Rattle.hd_entries.specs.Answers.{is_over, IsCoveredBook, IsTrueAnswer}
use Rattle.hd_entries.proofs.Marking.{all_marked}
use Rattle.hd_entries.proofs.Deciding.{answer_true, bound_plan_valid}
use Rattle.hd_world.specs.Seats.{Run}
use Rattle.hd_world.specs.Truth.{IsTrueRun}
use Rattle.hd_world.specs.Headline.{AnswersTruly}

-- where as many pass as there are, all do
All-from_count : (marks : List Bool) → count_by (λ (m : Bool). m) marks ≡ length marks → All (λ m. m ≡ true) marks
All-from_count [] e = All-nil (λ m. m ≡ true)
All-from_count (m ∷ marks) e =
    let sum = sum_by-cons (λ (m : Bool). let n : ℕ = cond m 1 0 in n) m marks in
    let few = count_by-le-length (λ m. m) marks in
    elim m as (λ b. m ≡ b → All (λ m. m ≡ true) (m ∷ marks)) [
      | true ↦ λ is.
          let one = ap (λ (b : Bool). let n : ℕ = cond b 1 0 in n) is in
          All-cons (λ m. m ≡ true) m marks is (All-from_count marks (omega (arith, e, sum, one)))
      | false ↦ λ is. let none = ap (λ (b : Bool). let n : ℕ = cond b 1 0 in n) is in absurd (omega (arith, e, sum, none, few))
    ] refl

covered_when_over : (b : BookState) → IsBookKept b → is_over b ≡ true → IsCoveredBook b
covered_when_over b kept over =
    all_marked b.task (hmax b.task) (expansions b) b.marks kept.marked
    (All-from_count b.marks (eqb-true (settled_count b) (posted_count b) over ∙ sym kept.marked.one_each))

pub answers_truly : (t : Task) (r : Run) → IsTrueRun t r → AnswersTruly t r
answers_truly t r x = record {
  covered = λ over. covered_when_over r.book.state x.kept over;
  verdict = λ over idle v is.
      subst (λ u. IsTrueAnswer u v) x.of_task (answer_true r.book.state.task (expansions r.book.state) v (covered_when_over r.book.state x.kept over) is);
  plan = λ p at. bound_plan_valid t (expansions r.book.state) p at;
}
