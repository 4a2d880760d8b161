-- What goes through a mailbox: each item comes out as often as it went in, and what was not taken
-- is left. (The messages of HDA*, Kishimoto, Fukunaga and Botea 2013; that the count is exact is
-- our own.)
use Rattle.std.specs.Prelude.{◌≡◌, ℕ, ◌+◌, ◌<◌, ◌++◌, List, [], ◌∷◌, Option, Some, None}
use Rattle.std.specs.List.{sum_by, AllByRecursion}
use mathlib.Core.Option.{some}
use lib.ListN.{get_elem?}
use Rattle.hd_desk.specs.declared.rule.Post.{Post}
use Rattle.hd_desk.specs.declared.rule.TheConstants.{ALL_PARTS}

module _ {K A : Type 0} where
  -- what a pass knows
  abbrev pub post : ℕ → Option K → List A → List A → Post K A
  post parts of put taken = record { parts = parts; of = of; put = put; taken = taken }

  -- what the first pass knows: it has all parts, and nothing has gone through
  abbrev pub fresh_pass : Post K A
  fresh_pass = post ALL_PARTS None [] []

  -- what a pass knows whose parts another has taken in
  abbrev pub spent_pass : Post K A
  spent_pass = post 0 None [] []

  -- how many parts passes have together
  abbrev pub parts_in : List (Post K A) → ℕ
  parts_in views = sum_by (λ v. v.parts) views

  -- what a pass has put, and taken, each item weighed and the weights added up
  abbrev pub weight_put : (A → ℕ) → Post K A → ℕ
  weight_put h v = sum_by h v.put

  -- the weights of the items that a pass has taken, added up
  abbrev pub weight_taken : (A → ℕ) → Post K A → ℕ
  weight_taken h v = sum_by h v.taken

-- A pass without a part has put and taken nothing; one with a part knows what the items are of.
pub record IsPassFor {K A : Type 0} (of : Option K) (v : Post K A) : Type 0 where
  pub idle_put : v.parts ≡ 0 → v.put ≡ []
  pub idle_taken : v.parts ≡ 0 → v.taken ≡ []
  pub knows : 0 < v.parts → v.of ≡ of

-- However items are weighed, what the passes have put weighs as much as what they have taken and
-- what the mailbox holds: each item comes out as often as it went in, none twice and none invented.
-- All are of the same, which each pass with a part knows.
pub record IsFair {K A : Type 0} (of : A → K) (items : List A) (views : List (Post K A)) : Type 0 where
  pub same : Option K
  pub whole : parts_in views ≡ ALL_PARTS
  pub even : (h : A → ℕ) → sum_by (weight_put h) views ≡ sum_by (weight_taken h) views + sum_by h items
  pub all_of : AllByRecursion (λ x. same ≡ Some (of x)) items
  pub known : (seat : ℕ) (v : Post K A) → get_elem? views seat ≡ some v → IsPassFor same v

-- ---- what a step changes: the view of the pass that steps, and no other

module _ {K A : Type 0} where
  -- the pass has put an item more
  abbrev pub HasPut : Post K A → A → Post K A → Type 0
  HasPut v x w = w ≡ post v.parts v.of (v.put ++ x ∷ []) v.taken

  -- the same, and knows now what items are of
  abbrev pub HasNamed : (A → K) → Post K A → A → Post K A → Type 0
  HasNamed of v x w = w ≡ post v.parts (Some (of x)) (v.put ++ x ∷ []) v.taken

  -- what a pass has put is what it has taken and what the mailbox holds, however items are weighed
  abbrev pub IsEven : Post K A → List A → Type 0
  IsEven v items = (h : A → ℕ) → sum_by h v.put ≡ sum_by h v.taken + sum_by h items

-- the pass has taken an item more, which is of what it knows
pub record HasTaken {K A : Type 0} (of : A → K) (v : Post K A) (x : A) (w : Post K A) : Type 0 where
  pub left : w ≡ post v.parts v.of v.put (v.taken ++ x ∷ [])
  pub fits : v.of ≡ Some (of x)

-- the pass has taken out what it put in to name the items; it is as if nothing had gone through
pub record HasCleared {K A : Type 0} (of : A → K) (v : Post K A) (x : A) (w : Post K A) : Type 0 where
  pub left : w ≡ post v.parts v.of [] []
  pub fits : v.of ≡ Some (of x)
