-- How the parts of a table show its successors: those of an entry stand side by side, from its
-- first place up to that of the next entry. (Our own.)
use Rattle.std.specs.Prelude.{◌≡◌, ℕ, zero, suc, ◌<◌, ◌≤◌, Bool, nat_lt, List, length, get_or, map, min}
use Rattle.std.specs.List.{count_by, position_or_len, range_with_len}
use Rattle.hd_tables.specs.Chunks.{ChunksView}
use Rattle.hd_tables.specs.Bits.{BitsView}
use Rattle.hd_task.specs.declared.plan.Kid.{Kid}
use Rattle.hd_task.specs.declared.plan.TheConstants.{ROOT_PARENT, ROOT_ACTION}
use Rattle.hd_tables.specs.Kids.{KidsView}

-- how many entries' successors begin at a place or before it
unfoldable pub begun : List ℕ → ℕ → ℕ
begun firsts j = position_or_len (nat_lt j) firsts

-- the parent of a successor where so many entries' successors have begun: the last of them; where
-- there is none, it is the root
abbrev pub parent_after : ℕ → ℕ
parent_after zero = ROOT_PARENT
parent_after (suc n) = n

-- the successor at a place
abbrev pub kid_at : List ℕ → List ℕ → ℕ → Kid
kid_at firsts actions j = record { parent = parent_after (begun firsts j); action = get_or actions j 0 }

-- the successors at all places
unfoldable pub kids_by : List ℕ → List ℕ → List Kid
kids_by firsts actions = map (kid_at firsts actions) (range_with_len 0 (length actions))

-- the table that these first places, actions and marks show
abbrev pub shown : ChunksView ℕ → ChunksView ℕ → BitsView → KidsView
shown firsts actions marks = record {
  kids = kids_by firsts.items actions.items;
  marks = marks.items;
  entries = length firsts.items;
  entry_room = firsts.room;
  kid_room = min actions.room marks.room;
}

-- the successors of entry n stand from a place up to another
pub record IsRow (firsts actions : List ℕ) (n low high : ℕ) : Type 0 where
  pub within : high ≤ length actions
  pub inside : (j : ℕ) → low ≤ j → j < high → begun firsts j ≡ suc n
  pub outside : (j : ℕ) → j < length actions → begun firsts j ≡ suc n → (low ≤ j) × (j < high)

-- what the parts of every table keep
pub record AreKids (firsts actions : List ℕ) (marks : List Bool) (settled : ℕ) : Type 0 where
  pub some : 0 < length actions
  pub root_is : get_or actions 0 0 ≡ ROOT_ACTION
  pub begins : (n : ℕ) → n < length firsts → 0 < get_or firsts n 0
  pub ends : (n : ℕ) → n < length firsts → get_or firsts n 0 ≤ length actions
  pub ordered : (m n : ℕ) → m < n → n < length firsts → get_or firsts m 0 ≤ get_or firsts n 0
  pub rising : (i j : ℕ) → i < j → j < length actions → begun firsts i ≡ begun firsts j → get_or actions i 0 < get_or actions j 0
  pub numbered : length firsts ≤ ROOT_PARENT
  pub one_each : length marks ≡ length actions
  pub settled_is : settled ≡ count_by (λ m. m) marks
