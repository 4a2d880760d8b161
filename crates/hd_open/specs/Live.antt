-- Slots by arrival, of which some hold a node, and what stands in them. (Our own.)
use Rattle.std.specs.Prelude.{◌≡◌, ℕ, List, [], ◌∷◌, Option, Some, None, is_some, length, take, slice_get}
use Rattle.std.specs.List.{filter}
use Rattle.hd_open.specs.Totals.{IsNotAfter}

-- the nodes that slots hold, in order
abbrev pub live : {A : Type 0} → List (Option A) → List A
live [] = []
live (Some x ∷ slots) = x ∷ live slots
live (None ∷ slots) = live slots

-- the slots that hold a node, in order
abbrev pub packed : {A : Type 0} → List (Option A) → List (Option A)
packed slots = filter is_some slots

-- how many nodes the slots before an arrival hold: the place of the node there among all
abbrev pub nodes_before : {A : Type 0} → List (Option A) → ℕ → ℕ
nodes_before slots arrival = length (live (take arrival slots))

-- a slot holds a node
abbrev pub HoldsNode : {A : Type 0} → List (Option A) → ℕ → Type 0
HoldsNode {A} slots arrival = (x : A) × (slice_get slots arrival ≡ Some (Some x))

-- the node that a slot holds is the best one
pub record IsBestArrival {A : Type 0} (total : A → Option ℕ) (slots : List (Option A)) (arrival : ℕ) : Type 0 where
  pub node : A
  pub there : slice_get slots arrival ≡ Some (Some node)
  pub least : (k : ℕ) (other : A) → slice_get slots k ≡ Some (Some other) → IsNotAfter (total node) arrival (total other) k
