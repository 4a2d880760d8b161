-- A task's actions as rules over the places of literals. A rule is an action, by its number, or
-- after the last action the goal. (Our own.)
use Rattle.std.specs.Prelude.{◌≡◌, ℕ, ◌+◌, ◌*◌, ◌-◌, ◌<◌, ◌≤◌, ◌==◌, ◌^◌, nat_le, nat_lt, Bool, true, false, not, ◌&&◌, if◌then◌else◌, List, [], ◌∷◌, ◌++◌, map, filter, length, Option, Some, None, slice_get, slice_index_or}
use Rattle.std.specs.List.{All}
use Rattle.hd_task.specs.declared.condition.Literal.{Literal}
use Rattle.hd_task.specs.declared.action.Action.{Action}
use Rattle.hd_task.specs.declared.task.Task.{Task}
use Rattle.hd_task.specs.declared.task.TheConstants.{MAX_AMOUNTS}
use Rattle.hd_task.specs.Effects.{names_atom}
use Rattle.hd_hmax.specs.Prices.{price}
use Rattle.hd_task.specs.Conditions.{literal}

-- ---- places

-- how many places there are for n atoms
abbrev pub places : ℕ → ℕ
places n = 2 * n + 2

-- an atom's number among those of the task; n stands for all atoms that the task lacks
abbrev pub near : ℕ → ℕ → ℕ
near n i = if nat_lt i n then i else n

-- the place of an atom or of its negation: atoms come first, then negations
abbrev pub place_at : ℕ → Bool → ℕ → ℕ
place_at n positive i = if positive then i else n + 1 + i

-- the place of a literal
abbrev pub place : ℕ → Literal → ℕ
place n l = place_at n l.positive (near n l.atom)

-- the literal of a place
abbrev pub literal_at : ℕ → ℕ → Literal
literal_at n p = if nat_le p n then literal true p else literal false (p - (n + 1))

-- ---- what rules need

-- the literals of a rule's condition
abbrev pub asked_by : Task → Option Action → List Literal
asked_by t None = t.goal.literals
asked_by t (Some a) = a.condition.literals

-- a condition of no literals asks for what is always so: the negation of an atom that the task
-- lacks
abbrev pub asked_of : ℕ → List Literal → List Literal
asked_of n [] = literal false n ∷ []
asked_of n (l ∷ ls) = l ∷ ls

-- the literals that a rule asks for
abbrev pub asked : Task → ℕ → List Literal
asked t r = asked_of (length t.atoms) (asked_by t (slice_get t.actions r))

-- their places
unfoldable pub needs : Task → ℕ → List ℕ
needs t r = map (place (length t.atoms)) (asked t r)

-- how often a number stands in a list
unfoldable pub times : ℕ → List ℕ → ℕ
times x xs = length (filter (λ y. y == x) xs)

-- the row of a number; none where there is no such row
abbrev pub row : List (List ℕ) → ℕ → List ℕ
row rows r = slice_index_or rows r []

-- ---- what actions bring about

-- a rule needs a place
abbrev pub is_asked : List (List ℕ) → ℕ → Bool
is_asked askers p = not (length (row askers p) == 0)

-- the places of the atoms that an action adds, if a rule needs them
abbrev pub added_places : ℕ → List (List ℕ) → List ℕ → List ℕ
added_places n askers adds = filter (λ i. nat_lt i n && is_asked askers i) adds

-- the places of the negations of deleted atoms, if a rule needs them
-- and the action does not add the atom too
abbrev pub deleted_places : ℕ → List (List ℕ) → List ℕ → List ℕ → List ℕ
deleted_places n askers adds deletes = map (λ i. n + 1 + i) (filter (λ i. nat_lt i n && (is_asked askers (n + 1 + i) && not (names_atom adds i))) deletes)

-- the places of what an action brings about, if a rule needs them
abbrev pub brings_of : ℕ → List (List ℕ) → Action → List ℕ
brings_of n askers a = added_places n askers a.adds ++ deleted_places n askers a.adds a.deletes

-- ---- the rules of a task

-- by place the rules that need it, each as often as it does, and by rule how many places it needs
pub record IsTransposed (t : Task) (askers : List (List ℕ)) (counts : List ℕ) : Type 0 where
  pub rules : length counts ≡ length t.actions + 1
  pub counted : (q : ℕ) → q ≤ length t.actions → slice_index_or counts q 0 ≡ length (needs t q)
  pub width : length askers ≡ places (length t.atoms)
  pub each : (p q : ℕ) → p < places (length t.atoms) → times q (row askers p) ≡ (if nat_le q (length t.actions) then times p (needs t q) else 0)

-- rules are those of a task
pub record AreRulesOf (t : Task) (n : ℕ) (prices counts : List ℕ) (askers brings : List (List ℕ)) : Type 0 where
  pub atoms : n ≡ length t.atoms
  pub each_price : prices ≡ map (price t) t.actions ++ 0 ∷ []
  pub small : All (λ p. p ≤ 2 ^ 63 * MAX_AMOUNTS) prices
  pub transposed : IsTransposed t askers counts
  pub brought : brings ≡ map (brings_of (length t.atoms) askers) t.actions
