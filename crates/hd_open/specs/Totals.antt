-- Which node of several is to be expanded first. (Best-first order with the earliest first, as in
-- A*: Hart, Nilsson and Raphael 1968.)
use Rattle.std.specs.Prelude.{◌≡◌, ◌⊎◌, ℕ, ◌≤◌, Bool, true, false, nat_lt, List, Option, Some, None, slice_get}

-- whether a total is less than another; if there is none, that is the greatest
abbrev pub is_less : Option ℕ → Option ℕ → Bool
is_less (Some a) (Some b) = nat_lt a b
is_less (Some a) None = true
is_less None b = false

-- a node of this total at this place comes no later than one of that total at that place: its total
-- is less, or the same and its place is not after the other's
abbrev pub IsNotAfter : Option ℕ → ℕ → Option ℕ → ℕ → Type 0
IsNotAfter total place other_total other_place = (is_less total other_total ≡ true) ⊎ ((total ≡ other_total) × (place ≤ other_place))

-- the node at a place is the best one: it comes no later than each other
pub record IsBest {A : Type 0} (total : A → Option ℕ) (nodes : List A) (place : ℕ) : Type 0 where
  pub node : A
  pub there : slice_get nodes place ≡ Some node
  pub least : (k : ℕ) (other : A) → slice_get nodes k ≡ Some other → IsNotAfter (total node) place (total other) k
