-- Estimates of up to 64 states at once: the word of a place has a bit for each state, its lane.
-- Tables are made level by level: in that of a level a lane has the places that cost at most so
-- much. (Our own.)
use Rattle.std.specs.Prelude.{◌≡◌, ℕ, ◌+◌, ◌-◌, ◌<◌, ◌≤◌, ◌==◌, Bool, true, List, [], length, Option, IfSome, slice_get, slice_index_or, Contains}
use Rattle.std.specs.Int.{bit_at}
use Rattle.std.specs.List.{list_all, list_any}
use Rattle.hd_task.specs.declared.state.State.{State}
use Rattle.hd_task.specs.declared.task.Task.{Task}
use Rattle.hd_task.specs.Conditions.{literal_holds}
use Rattle.hd_task.specs.Plans.{IsStateOf}
use Rattle.hd_hmax.specs.declared.estimate.EstimateValue.{EstimateValue}
use Rattle.hd_hmax.specs.declared.levels.Lanes.{Lanes}
use Rattle.hd_hmax.specs.Costs.{up_to}
use Rattle.hd_hmax.specs.Value.{estimated}
use Rattle.hd_hmax.specs.Rounds.{hmax}
use Rattle.hd_task.specs.Conditions.{literal}
use Rattle.hd_hmax.specs.Rules.{places, place_at, needs, row}
use Rattle.hd_hmax.specs.Working.{final_value, price_by}

-- what is told of a state is its estimate
abbrev pub IsValueOf : Task → State → Option EstimateValue → Type 0
IsValueOf t s o = IfSome o (λ v. estimated v ≡ hmax t s)

-- ---- tables

-- bit j of a word
unfoldable pub bit : ℕ → ℕ → Bool
bit w j = bit_at w j == 1

-- a lane has a place
abbrev pub is_set : List ℕ → ℕ → ℕ → Bool
is_set table p j = bit (slice_index_or table p 0) j

-- it has all of these places
abbrev pub has_all : List ℕ → ℕ → List ℕ → Bool
has_all table j ps = list_all (λ p. is_set table p j) ps

-- a place is one of these
abbrev pub is_among : List ℕ → ℕ → Bool
is_among ps p = list_any (λ q. q == p) ps

-- the table of a level; none where there is no such level
abbrev pub table_of : List (List ℕ) → ℕ → List ℕ
table_of tables c = slice_index_or tables c []

-- ---- what lanes say of states

-- a lane has what is true in a state
abbrev pub IsLane : Task → State → List ℕ → ℕ → Type 0
IsLane t s table j = (b : Bool) (i : ℕ) → i ≤ length t.atoms → is_set table (place_at (length t.atoms) b i) j ≡ literal_holds s (literal b i)

-- the places that a lane has cost at most so much
abbrev pub IsSound : Task → State → ℕ → List ℕ → ℕ → Type 0
IsSound t s c table j = (p : ℕ) → p < places (length t.atoms) → is_set table p j ≡ true → up_to c (final_value t s p) ≡ true

-- the price of an action
abbrev pub price_at : Task → ℕ → ℕ
price_at t q = price_by t (slice_get t.actions q)

-- where a lane has all in one table that an action needs, it has in another what that brings about
abbrev pub IsShut : Task → List (List ℕ) → ℕ → List ℕ → List ℕ → ℕ → Type 0
IsShut t brings q old new j = has_all old j (needs t q) ≡ true → (p : ℕ) → Contains (row brings q) p → is_set new p j ≡ true

-- tables are those of the levels below one, from what is true at first, and the last is that from
-- which the next is made
pub record AreLevels (t : Task) (brings : List (List ℕ)) (first : List ℕ) (upto : ℕ) (tables : List (List ℕ)) (last : List ℕ) : Type 0 where
  pub grown : (c p j : ℕ) → c < upto → j < 64 → is_set first p j ≡ true → is_set (table_of tables c) p j ≡ true
  pub shut : (c q j : ℕ) → c < upto → j < 64 → q < length t.actions → price_at t q ≤ c → IsShut t brings q (table_of tables (c - price_at t q)) (table_of tables c) j
  pub sound : (s : State) (j c : ℕ) → j < 64 → IsStateOf t s → IsLane t s first j → c < upto → IsSound t s c (table_of tables c) j
  pub last_grown : (p j : ℕ) → j < 64 → is_set first p j ≡ true → is_set last p j ≡ true
  pub last_sound : (s : State) (j : ℕ) → j < 64 → IsStateOf t s → IsLane t s first j → IsSound t s upto last j

-- ---- as the code keeps it

-- rows are of the places that rules need, the goal after the actions
pub record AreNeeds (t : Task) (rows : List (List ℕ)) : Type 0 where
  pub many : length rows ≡ length t.actions + 1
  pub each : (q : ℕ) → q ≤ length t.actions → row rows q ≡ needs t q

-- each table has a word for each place
abbrev pub HasWidths : Task → List (List ℕ) → Type 0
HasWidths t tables = (c : ℕ) → c < length tables → length (table_of tables c) ≡ places (length t.atoms)

-- there is a word for each place
pub record HasLanes (t : Task) (w : Lanes) : Type 0 where
  pub first : length w.first.items ≡ places (length t.atoms)
  pub room : length w.room.items ≡ places (length t.atoms)
  pub tables : HasWidths t w.tables.items
