-- How the marks of a batch that is refused are taken back. (Our own.)
use Rattle.std.specs.Prelude.{◌≡◌, ℕ, zero, suc, ◌<◌, List, take, length, true, None, slice_index_or}
use Rattle.hd_tables.specs.Kids.{KidsView, with_mark_at}
use Rattle.hd_node.specs.Outcome.{kid_of}
use Rattle.hd_node.specs.declared.batch.Outcome.{Outcome}
use Rattle.hd_entries.specs.declared.expanded.ExpandedPlans.{ExpandedPlans}
use Rattle.hd_entries.specs.Settling.{place_of}
use Rattle.hd_entries.specs.Holding.{state_with}
use Rattle.hd_entries.specs.Admitting.{refusal_at}

-- the outcome of this number is right, and the table is another one with the mark of its successor
pub record MarksNext (x : ExpandedPlans) (before after : KidsView) (outcomes : List Outcome) (n : ℕ) : Type 0 where
  pub outcome : Outcome
  pub within : n < length outcomes
  pub there : outcome ≡ slice_index_or outcomes n outcome
  pub right : refusal_at (state_with x before.marks) (take n outcomes) outcome ≡ None
  pub more : after ≡ with_mark_at before (place_of (state_with x before.marks) (kid_of outcome)) true

-- the first outcomes, so many of them, are right, and the table is another one with the marks of
-- their successors
abbrev pub MarksAll : ExpandedPlans → KidsView → List Outcome → ℕ → KidsView → Type 0
MarksAll x first outcomes zero table = table ≡ first
MarksAll x first outcomes (suc n) table = (before : KidsView) × MarksNext x before table outcomes n × MarksAll x first outcomes n before
