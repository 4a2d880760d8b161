-- What is reported of a run at the end of a schedule. (Our own.)
use Rattle.std.specs.Prelude.{◌≡◌, ℕ, ◌≤◌, Bool, true, false, ◌&&◌, List, length, Option, Some, None}
use Rattle.hd_task.specs.declared.task.Task.{Task}
use Rattle.hd_task.specs.Plans.{IsValidAt}
use Rattle.hd_entries.specs.declared.verdict.Verdict.{Verdict}
use Rattle.hd_entries.specs.declared.verdict.Verdict.TheVariants as verdicts
use Rattle.hd_entries.specs.Settling.{BookState}
use Rattle.hd_entries.specs.Answers.{IsAnswerOf, is_over}
use Rattle.hd_book.specs.Queue.{is_idle}
use Rattle.hd_book.specs.View.{BookView}
use Rattle.hd_world.specs.Moves.{book_bound}
use Rattle.hd_world.specs.Seats.{Run}
use Rattle.hd_world.specs.Stops.{File, journal_bytes}
use Rattle.hd_replay.specs.declared.report.Says.{Says}
use Rattle.hd_replay.specs.declared.report.Says.TheVariants.{Optimal, NoPlan, RangeLeft}
use Rattle.hd_replay.specs.declared.report.Report.{Report}

-- ---- the verdict

-- what is said for an answer: the bound is the cost of an optimal plan; a departure is reported by
-- its entry
abbrev pub IsSaidFor : BookState → Verdict → Says → Type 0
IsSaidFor b (verdicts.Optimal p) says = (cost : ℕ) × (book_bound b ≡ Some cost) × (says ≡ Optimal cost)
IsSaidFor b verdicts.NoPlan says = says ≡ NoPlan
IsSaidFor b (verdicts.RangeLeft d p) says = says ≡ RangeLeft d.entry

-- a book is at its end: all is settled, and nothing waits to be appended or acknowledged
abbrev pub is_ended : BookView → Bool
is_ended b = is_over b.state && is_idle b.batches.queue

-- what is said of a book: its answer, exactly where it is at its end
abbrev pub IsSaidOf : BookView → Option Says → Type 0
IsSaidOf b None = is_ended b ≡ false
IsSaidOf b (Some says) = (is_ended b ≡ true) × ((v : Verdict) × IsAnswerOf b.state v × IsSaidFor b.state v says)

-- what is said is true of all plans: a valid one has the cost, and none costs less; or none is
-- valid
abbrev pub IsTrueSaid : Task → Says → Type 0
IsTrueSaid t (Optimal cost) =
    ((p : List ℕ) × IsValidAt t p cost) × ((p : List ℕ) (other : ℕ) → IsValidAt t p other → cost ≤ other)
IsTrueSaid t NoPlan = (p : List ℕ) (cost : ℕ) → IsValidAt t p cost → ⊥
IsTrueSaid t (RangeLeft entry) = Unit {0}

-- a verdict, if there is one, is true of all plans
abbrev pub IsTrueIfSaid : Task → Option Says → Type 0
IsTrueIfSaid t None = Unit {0}
IsTrueIfSaid t (Some says) = IsTrueSaid t says

-- ---- the report

-- what is reported of a run over its journal: how many entries its book has, how many of them are
-- acknowledged, the length of the journal, and what is said of the book
pub record IsReportOf (digest : List ℕ) (f : File) (r : Run) (report : Report) : Type 0 where
  pub expansions : report.expansions ≡ length r.book.state.entries
  pub acknowledged : report.acknowledged ≡ r.book.batches.queue.acknowledged
  pub bytes : report.bytes ≡ length (journal_bytes digest f)
  pub verdict : IsSaidOf r.book report.verdict
