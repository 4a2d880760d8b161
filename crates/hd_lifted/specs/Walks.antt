-- Walks up the types, in which each type gets the stamp of the first walk that comes to it.
use Rattle.std.specs.Prelude.{◌≡◌, ◌≢◌, ℕ, ◌+◌, ◌≤◌, ◌==◌, ◌⊎◌, ◌<◌, List, length, Option, MatchOption, count_by}
use Rattle.hd_lifted.specs.Types.{entry_of, ancestor, IsOnCycle, IsRooted}

-- the stamp of a type: 0 where no walk came to it, and for `object` and a number beyond the list
abbrev pub stamp_of : List ℕ → ℕ → ℕ
stamp_of stamps t = entry_of stamps t

-- how many types no walk came to
abbrev pub unvisited : List ℕ → ℕ
unvisited stamps = count_by (λ s. s == 0) stamps

-- steps lead from a type to `object`, no more of them than there are visited types, and `object`
pub record IsRootedBy (parents stamps : List ℕ) (t : ℕ) : Type 0 where
  pub steps : ℕ
  pub few : steps + unvisited stamps ≤ length parents + 1
  pub leads : ancestor parents steps t ≡ 0

-- so it is for each type that a walk came to
abbrev pub AreRootedBy : List ℕ → List ℕ → Type 0
AreRootedBy parents stamps = (t : ℕ) → stamp_of stamps t ≢ 0 → IsRootedBy parents stamps t

-- and stays so
abbrev pub StaysRootedBy : List ℕ → List ℕ → List ℕ → Type 0
StaysRootedBy parents old new = AreRootedBy parents old → AreRootedBy parents new

-- a type other than `object` stands in the list, and no walk came to it
abbrev pub IsUnvisited : List ℕ → ℕ → Type 0
IsUnvisited stamps t = (0 < t) × (t ≤ length stamps) × (stamp_of stamps t ≡ 0)

-- steps lead from each type to `object`, unless a type is found, which lies on a cycle
abbrev pub IsRootedUnless : List ℕ → Option ℕ → Type 0
IsRootedUnless parents found = MatchOption found (IsRooted parents) (IsOnCycle parents)

-- a walk gave its stamp to types that had none, and took none away
abbrev pub OnlyStamps : ℕ → List ℕ → List ℕ → Type 0
OnlyStamps stamp old new = (t : ℕ) → (stamp_of new t ≡ stamp_of old t) ⊎ ((stamp_of old t ≡ 0) × (stamp_of new t ≡ stamp))

-- after the walks from the types below a number: they are visited, and the types visited are rooted
-- or one lies on a cycle
pub record AreVisited (parents stamps : List ℕ) (next : ℕ) (found : Option ℕ) : Type 0 where
  pub same : length stamps ≡ length parents
  pub below : (t : ℕ) → stamp_of stamps t < next
  pub visited : (t : ℕ) → 0 < t → t < next → stamp_of stamps t ≢ 0
  pub cycles : MatchOption found (AreRootedBy parents stamps) (IsOnCycle parents)
