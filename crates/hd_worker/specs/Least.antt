-- The least of the costs plus estimates of open nodes. (A*, Hart, Nilsson and Raphael 1968.)
use Rattle.std.specs.Prelude.{◌≡◌, ℕ, List, Option, Some, None}
use Rattle.std.specs.List.{AllByRecursion}
use Rattle.hd_open.specs.Totals.{IsBest}

-- it is that of the best node; or there is none, since no node has a total, or there is no node
abbrev pub IsLeastTotal : {A : Type 0} → (A → Option ℕ) → List A → Option ℕ → Type 0
IsLeastTotal total nodes (Some least) = (place : ℕ) × (best : IsBest total nodes place) × (total best.node ≡ Some least)
IsLeastTotal total nodes None = AllByRecursion (λ n. total n ≡ None) nodes
