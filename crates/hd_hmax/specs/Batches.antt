-- Recipes: actions in a fixed form, in batches by price. (Our own.)
use Rattle.std.specs.Prelude.{◌≡◌, ℕ, ◌-◌, ◌<◌, ◌⊎◌, ◌&&◌, Bool, true, List, [], ◌∷◌, length, slice_index_or, Contains}
use Rattle.std.specs.List.{list_any}
use Rattle.hd_hmax.specs.declared.batches.Recipe.{Recipe}
use Rattle.hd_hmax.specs.Rules.{row}
use Rattle.hd_hmax.specs.Lanes.{is_set, has_all, is_among, table_of}

-- what a recipe needs
unfoldable pub asks_of : Recipe → List ℕ
asks_of r = r.first ∷ r.second ∷ r.third ∷ r.fourth ∷ []

-- and what it gives
unfoldable pub gives_of : Recipe → List ℕ
gives_of r = r.one ∷ r.other ∷ []

-- its places are below a width
abbrev pub NeedsBelow : ℕ → Recipe → Type 0
NeedsBelow n r = (r.first < n) × (r.second < n) × (r.third < n) × (r.fourth < n)

abbrev pub GivesBelow : ℕ → Recipe → Type 0
GivesBelow n r = (r.one < n) × (r.other < n)

-- a recipe needs just these places, and gives only what is among those
pub record IsRecipe (needs brings : List ℕ) (r : Recipe) : Type 0 where
  pub all : (p : ℕ) → Contains needs p → Contains (asks_of r) p
  pub only : (p : ℕ) → Contains (asks_of r) p → Contains needs p
  pub gives : (p : ℕ) → Contains (gives_of r) p → Contains brings p

-- recipes for the first so many places that an action brings about were put to others
pub record HasAdded (needs brings : List ℕ) (upto : ℕ) (old new : List Recipe) : Type 0 where
  pub kept : (r : Recipe) → Contains old r → Contains new r
  pub all : (k : ℕ) → k < upto → k < length brings → (r : Recipe) × Contains new r × IsRecipe needs brings r × Contains (gives_of r) (slice_index_or brings k 0)
  pub only : (r : Recipe) → Contains new r → Contains old r ⊎ IsRecipe needs brings r

-- the recipes of a price
abbrev pub batch : List (List Recipe) → ℕ → List Recipe
batch batches c = slice_index_or batches c []

-- each place that one of the actions so far brings about, is given by a recipe of its price, or
-- the action is one of the rest
pub record AreBatches (needs brings : List (List ℕ)) (prices : List ℕ) (upto : ℕ) (batches : List (List Recipe)) (rest : List ℕ) : Type 0 where
  pub all : (q p : ℕ) → q < upto → Contains (row brings q) p → Contains rest q ⊎ ((r : Recipe) × Contains (batch batches (slice_index_or prices q 0)) r × IsRecipe (row needs q) (row brings q) r × Contains (gives_of r) p)
  pub only : (c : ℕ) (r : Recipe) → Contains (batch batches c) r → (q : ℕ) × (q < upto) × (slice_index_or prices q 0 ≡ c) × IsRecipe (row needs q) (row brings q) r
  pub inside : (q : ℕ) → Contains rest q → q < upto

-- the lanes of one table that have what some recipe needs that gives a place
abbrev pub is_given : List Recipe → List ℕ → ℕ → ℕ → Bool
is_given recipes old p j = list_any (λ r. is_among (gives_of r) p && has_all old j (asks_of r)) recipes

-- a table has what the recipes of the prices below one give by the tables of levels below
abbrev pub AreFollowed : List (List Recipe) → List (List ℕ) → ℕ → ℕ → List ℕ → Type 0
AreFollowed batches tables level upto room = (c : ℕ) (r : Recipe) (p j : ℕ) → j < 64 → 0 < c → c < upto → Contains (batch batches c) r → has_all (table_of tables (level - c)) j (asks_of r) ≡ true → Contains (gives_of r) p → is_set room p j ≡ true
