-- Which generated plans are settled. (HDA*, Kishimoto, Fukunaga and Botea 2013: closed and pruned
-- nodes.)
use Rattle.std.specs.Prelude.{◌≡◌, ℕ, ◌<◌, Bool, true, false, List, [], Contains, length, slice_index_or, ◌⊎◌}
use Rattle.hd_task.specs.declared.task.Task.{Task}
use Rattle.hd_task.specs.Expansions.{generated, IsLegal}
use Rattle.hd_task.specs.Covers.{Estimate, IsJustified}

-- a plan is settled where it is expanded, or need not be
abbrev pub IsPlanSettled : Task → Estimate → List (List ℕ) → List ℕ → Type 0
IsPlanSettled t h expanded p = Contains expanded p ⊎ IsJustified t h expanded p

-- a legal list of expansions with a mark for each plan that it generates: a marked one is settled,
-- one that is not marked is not expanded
pub record IsMarked (t : Task) (h : Estimate) (expanded : List (List ℕ)) (marks : List Bool) : Type 0 where
  pub legal : IsLegal t expanded
  pub one_each : length marks ≡ length (generated t expanded)
  pub settled :
      (k : ℕ) → k < length marks → slice_index_or marks k true ≡ true → IsPlanSettled t h expanded (slice_index_or (generated t expanded) k [])
  pub unsettled :
      (k : ℕ) → k < length marks → slice_index_or marks k true ≡ false → Contains expanded (slice_index_or (generated t expanded) k []) → ⊥
