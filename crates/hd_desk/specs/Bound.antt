-- A bound that threads share, as contracts see it. (The shared bound of parallel branch and bound;
-- that the word is exactly the least of all offers is our own.)
use Rattle.std.specs.Prelude.{◌≡◌, ℕ, ◌-◌, ◌==◌, List, [], ◌∷◌, Option, Some, None, cond, min}
use Rattle.atomic_table.specs.Seated.{TableId}
use Rattle.hd_desk.specs.declared.bound_rule.TheConstants.{NO_BOUND}

-- a bound word: its name, which tells it from others, and what it started with
pub record BoundView : Type 0 where
  pub of : TableId
  pub start : ℕ

-- a seat at a bound word: the name of that; the seat's parts; the least number that it has seen or
-- offered; what it has offered, in order
pub record SeatView : Type 0 where
  pub of : TableId
  pub parts : ℕ
  pub seen : ℕ
  pub offers : List ℕ

-- a table of one word, and no slots
pub record IsOneWord (t : TableId) : Type 0 where
  pub words : t.words ≡ 1
  pub slots : t.slots ≡ 0

-- the bound that a word says: none where it is the greatest number
abbrev pub bound_in : ℕ → Option ℕ
bound_in word = cond (word == NO_BOUND) None (Some word)

-- the word that says a bound
abbrev pub word_of : Option ℕ → ℕ
word_of None = NO_BOUND
word_of (Some cost) = cost

-- the least of a number and of some more
abbrev pub least : ℕ → List ℕ → ℕ
least n [] = n
least n (x ∷ xs) = min x (least n xs)

-- a part is given away
abbrev pub less_part : SeatView → SeatView
less_part s = record s { parts = s.parts - 1 }

-- a seat with one part that has seen the same, and offered nothing
abbrev pub one_part : SeatView → SeatView
one_part s = record { of = s.of; parts = 1; seen = s.seen; offers = [] }
