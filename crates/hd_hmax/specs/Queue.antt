-- Rules that can be taken, with what they cost. (Our own.)
use Rattle.std.specs.Prelude.{◌≡◌, ℕ, ◌≤◌, ◌<◌, List, length, slice_index_or, Contains, ◌⊎◌}
use Rattle.std.specs.Ordering.{nat_cmp, ordering_then}
use Rattle.std.specs.declared.cmp.Ordering.{Ordering}
use Rattle.std.specs.declared.cmp.Reverse.{Reverse}

-- a cost, and the rule that costs so much
abbrev pub Ready : Type 0
Ready = Reverse (ℕ × ℕ)

-- a rule, by its number, that can be taken at this cost
abbrev pub ready : ℕ → ℕ → Ready
ready cost rule = record { 0 = (cost, rule) }

-- the order in which they come: what costs less is greater
abbrev pub by_cost : Ready → Ready → Ordering
by_cost x y = ordering_then (nat_cmp y.0.0 x.0.0) (nat_cmp y.0.1 x.0.1)

-- the default if a list has nothing at a place: rule 0 at cost 0
abbrev pub none : Ready
none = ready 0 0

-- a list of rules whose costs do not fall, and none of which costs more than the last
pub record IsSortedRow (run : List Ready) (last : ℕ) : Type 0 where
  pub rises : (i j : ℕ) → i ≤ j → j < length run → (slice_index_or run i none).0.0 ≤ (slice_index_or run j none).0.0
  pub low : (i : ℕ) → i < length run → (slice_index_or run i none).0.0 ≤ last

-- a rule of a list from a place on
pub record IsInRun (run : List Ready) (taken : ℕ) (x : Ready) : Type 0 where
  pub place : ℕ
  pub from : taken ≤ place
  pub within : place < length run
  pub is : slice_index_or run place none ≡ x

-- a rule waits in the row, from a place on, or in the heap
abbrev pub WaitsIn : List Ready → ℕ → List Ready → Ready → Type 0
WaitsIn run taken heap x = IsInRun run taken x ⊎ Contains heap x

-- the next rule of the row costs no more than any of the heap
pub record IsNextRule (run : List Ready) (taken : ℕ) (heap : List Ready) : Type 0 where
  pub there : taken < length run
  pub least : (y : Ready) → Contains heap y → (slice_index_or run taken none).0.0 ≤ y.0.0

-- a rule of the heap costs no more than the next one of the row, if there is one
abbrev pub IsLate : List Ready → ℕ → List Ready → Type 0
IsLate run taken heap = (length run ≤ taken) ⊎ ((h : Ready) × Contains heap h × (h.0.0 ≤ (slice_index_or run taken none).0.0))

-- a rule was put in
pub record IsPushed (old : Ready → Type 0) (x : Ready) (new : Ready → Type 0) : Type 0 where
  pub has : new x
  pub kept : (y : Ready) → old y → new y
  pub from : (y : Ready) → new y → old y ⊎ (y ≡ x)

-- the cheapest was taken out
pub record IsPopped (old : Ready → Type 0) (x : Ready) (new : Ready → Type 0) : Type 0 where
  pub was : old x
  pub kept : (y : Ready) → old y → new y ⊎ (y ≡ x)
  pub from : (y : Ready) → new y → old y
  pub least : (y : Ready) → new y → x.0.0 ≤ y.0.0

-- nothing waits
abbrev pub IsEmpty : (Ready → Type 0) → Type 0
IsEmpty old = (y : Ready) → old y → ⊥
