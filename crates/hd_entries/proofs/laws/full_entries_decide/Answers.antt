use Rattle.hd_hmax.specs.Rounds.{hmax}
use Rattle.hd_task.proofs.Optimal.{each_optimal, no_plan}
use Rattle.hd_hmax.proofs.Admissible.{hmax_admissible}
use Rattle.hd_entries.specs.Settling.{expansions}
use Rattle.hd_entries.proofs.Marking.{all_marked}
use Rattle.hd_entries.proofs.laws.full_entries_decide.Goals as goal

pub returns : goal.returns
returns c = record {
  covered = λ b kept all. all_marked b.task (hmax b.task) (expansions b) b.marks kept.marked all;
  optimal = λ b cost kept all none is p at.
      each_optimal b.task (hmax b.task) (hmax_admissible b.task) (expansions b) none (all_marked b.task (hmax b.task) (expansions b) b.marks kept.marked all) cost is p at;
  no_plan = λ b kept all none is.
      no_plan b.task (hmax b.task) (hmax_admissible b.task) (expansions b) none (all_marked b.task (hmax b.task) (expansions b) b.marks kept.marked all) is;
}
