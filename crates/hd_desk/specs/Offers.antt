-- What is offered to a bound word, and what holds of it between any two steps. (Our own.)
use Rattle.std.specs.Prelude.{◌≡◌, ℕ, ◌<◌, ◌≤◌, ◌++◌, List, [], ◌∷◌, min}
use Rattle.std.specs.List.{sum_by}
use mathlib.Core.Option.{some}
use lib.ListN.{get_elem?}
use Rattle.atomic_table.specs.Table.{State, Me, Step}
use Rattle.hd_desk.specs.declared.bound_rule.Offers.{Offers}
use Rattle.hd_desk.specs.declared.bound_rule.TheConstants.{NO_BOUND}
use Rattle.hd_desk.specs.declared.rule.TheConstants.{ALL_PARTS}
use Rattle.hd_desk.specs.Bound.{least}

-- what a seat knows
abbrev pub knows : ℕ → ℕ → List ℕ → Offers
knows parts seen offers = record { parts = parts; seen = seen; offers = offers }

-- what the first seat knows: it has all parts, and has seen what the word starts with
abbrev pub fresh_seat : ℕ → Offers
fresh_seat start = knows ALL_PARTS start []

-- what a seat knows whose parts another has taken in
abbrev pub spent_seat : Offers
spent_seat = knows 0 NO_BOUND []

-- how many parts seats have together
abbrev pub parts_in : List Offers → ℕ
parts_in views = sum_by (λ v. v.parts) views

-- the least of a number and of all that the seats have offered
abbrev pub least_offered : ℕ → List Offers → ℕ
least_offered start [] = start
least_offered start (v ∷ views) = least (least_offered start views) v.offers

-- a seat's knowledge fits a word: with a part, it has seen nothing less than the word; without one,
-- it has offered nothing
pub record IsSeatAt (word : ℕ) (v : Offers) : Type 0 where
  pub seen : 0 < v.parts → word ≤ v.seen
  pub idle : v.parts ≡ 0 → v.offers ≡ []

-- the word is the least of what it started with and of all offers
pub record IsLeast (start : ℕ) (s : State (Unit {0}) Offers) : Type 0 where
  pub word : s.words ≡ least_offered start s.views ∷ []
  pub whole : parts_in s.views ≡ ALL_PARTS
  pub seats : (seat : ℕ) (v : Offers) → get_elem? s.views seat ≡ some v → IsSeatAt (least_offered start s.views) v

-- ---- what a step reports its seat

-- the word was read: it is what the seat has seen last
abbrev pub HasLoaded : Step (Unit {0}) → Me (Unit {0}) Offers → ℕ → Me (Unit {0}) Offers → Type 0
HasLoaded s v found w = (found ≤ v.0.seen) × (w ≡ (knows v.0.parts found v.0.offers, v.1))

-- a cost was offered: what the seat has seen is now no greater
abbrev pub HasOffered : Step (Unit {0}) → Me (Unit {0}) Offers → ℕ → Me (Unit {0}) Offers → Type 0
HasOffered s v found w = (found ≤ v.0.seen) × (w ≡ (knows v.0.parts (min found s.first) (v.0.offers ++ s.first ∷ []), v.1))

-- ---- a seat that is at hand

-- no slot is out with it, and it has a part
pub record IsAtHand (me : Me (Unit {0}) Offers) : Type 0 where
  pub home : me.1 ≡ []
  pub part : 0 < me.0.parts
