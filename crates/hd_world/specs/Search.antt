-- The abstract search: what a search is to whoever looks at it from outside, whatever its
-- workers, its journal and its disk do. (Our own.)
use Rattle.std.specs.Prelude.{◌≡◌, ℕ, ◌≤◌, List, [], ◌∷◌, ◌++◌, length, take}
use Rattle.hd_task.specs.declared.task.Task.{Task}
use Rattle.hd_task.specs.Expansions.{IsLegal}
use Rattle.hd_entries.specs.Settling.{expansions}
use Rattle.hd_entries.specs.Resuming.{resumed_state}
use Rattle.hd_world.specs.Seats.{Run}
use Rattle.hd_world.specs.Stops.{File, journal_entries}

-- a search: the plans that are expanded, in order, and how many of them are acknowledged
pub record Search : Type 0 where
  pub expanded : List (List ℕ)
  pub acknowledged : ℕ

-- at first nothing is expanded
abbrev pub first_search : Search
first_search = record { expanded = []; acknowledged = 0 }

-- the search that a journal holds: that after its entries, all of which are acknowledged
abbrev pub search_in : Task → File → Search
search_in t f = record { expanded = expansions (resumed_state t (journal_entries f)); acknowledged = length (journal_entries f) }

-- more plans are expanded after the others, and the list stays legal
pub record Extends (t : Task) (a b : Search) (more : List (List ℕ)) : Type 0 where
  pub longer : b.expanded ≡ a.expanded ++ more
  pub legal : IsLegal t b.expanded
  pub same : b.acknowledged ≡ a.acknowledged

-- more of the plans are acknowledged
pub record Acknowledges (a b : Search) : Type 0 where
  pub same : b.expanded ≡ a.expanded
  pub no_fewer : a.acknowledged ≤ b.acknowledged
  pub among : b.acknowledged ≤ length b.expanded

-- a beginning is left that has all plans which were acknowledged, and all of it is acknowledged
pub record IsCutTo (a b : Search) (left : ℕ) : Type 0 where
  pub no_fewer : a.acknowledged ≤ left
  pub among : left ≤ length a.expanded
  pub front : b.expanded ≡ take left a.expanded
  pub all : b.acknowledged ≡ left

-- an abstract search is moved: more is expanded, or more is acknowledged, or a beginning is left;
-- or it stays as it is
pub data IsMoved (t : Task) (a b : Search) : Type 0 where
  Stays : b ≡ a → IsMoved t a b
  Lengthens : (more : List (List ℕ)) → Extends t a b more → IsMoved t a b
  IsAcknowledged : Acknowledges a b → IsMoved t a b
  IsCut : (left : ℕ) → IsCutTo a b left → IsMoved t a b

-- it is moved from one over others to another, move by move
abbrev pub LeadsOver : Task → Search → List Search → Search → Type 0
LeadsOver t a [] c = c ≡ a
LeadsOver t a (b ∷ via) c = IsMoved t a b × LeadsOver t b via c

-- it may be moved from one to another
abbrev pub MayBecome : Task → Search → Search → Type 0
MayBecome t a c = (via : List Search) × LeadsOver t a via c

-- the search of a run
abbrev pub search_of : Run → Search
search_of r = record { expanded = expansions r.book.state; acknowledged = r.book.batches.queue.acknowledged }
