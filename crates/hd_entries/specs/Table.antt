-- Entries in a table that holds their states apart. (Our own.)
use Rattle.std.specs.Prelude.{◌≡◌, ℕ, List, [], ◌∷◌, length}
use Rattle.hd_task.specs.declared.state.State.{State}
use Rattle.hd_task.specs.declared.task.Task.{Task}
use Rattle.hd_zobrist.specs.Hash.{state_hash}
use Rattle.hd_tables.specs.Widths.{Widths}
use Rattle.hd_entries.specs.declared.entry.ExpandedPlan.{ExpandedPlan}
use Rattle.hd_entries.specs.declared.entry.Label.{Label}

-- how many atoms and fluents the state of each entry has, the entries, and how many can be pushed
-- without asking for memory
pub record TableView : Type 0 where
  pub widths : Widths
  pub items : List ExpandedPlan
  pub room : ℕ

-- the entry of a label, with its state
abbrev pub entry_from : Label → State → ExpandedPlan
entry_from l s = record { kid = l.kid; state = s; cost = l.cost }

-- the entries of labels, with a state for each
abbrev pub labelled_entries : List Label → List State → List ExpandedPlan
labelled_entries [] states = []
labelled_entries (l ∷ ls) [] = []
labelled_entries (l ∷ ls) (s ∷ ss) = entry_from l s ∷ labelled_entries ls ss

-- there is a label for each state, with the state's hash
abbrev pub AreLabels : List Label → List State → Type 0
AreLabels [] [] = Unit {0}
AreLabels [] (s ∷ ss) = ⊥
AreLabels (l ∷ ls) [] = ⊥
AreLabels (l ∷ ls) (s ∷ ss) = (l.hash ≡ state_hash s) × AreLabels ls ss

-- these are the widths of the states of a task
pub record AreWidthsOf (t : Task) (w : Widths) : Type 0 where
  pub atoms : w.atoms ≡ length t.atoms
  pub fluents : w.fluents ≡ length t.fluents
