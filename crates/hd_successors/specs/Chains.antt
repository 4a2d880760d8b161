-- The actions that watch an atom first, one after the other from the last: each is found by the one
-- after it. (Our own.)
use Rattle.std.specs.Prelude.{◌≡◌, ℕ, zero, suc, ◌+◌, ◌*◌, ◌<◌, ◌≤◌, ◌==◌, Bool, true, false, if◌then◌else◌, List, length, get_or, set, slice_get}
use Rattle.hd_successors.specs.declared.watching.WatchedAtoms.{WatchedAtoms}
use Rattle.hd_successors.specs.declared.watching.WatchedAtoms.TheVariants.{Always, Atoms}
use Rattle.hd_successors.specs.Seeing.{watches_one}

-- an action watches this atom first
abbrev pub is_watcher : List WatchedAtoms → ℕ → ℕ → Bool
is_watcher watched atom n = watches_one (λ i. i == atom) (slice_get watched n)

-- one more than the last action below a number that watches this atom first; 0 where none does
abbrev pub last_watcher : List WatchedAtoms → ℕ → ℕ → ℕ
last_watcher watched atom zero = 0
last_watcher watched atom (suc n) = if is_watcher watched atom n then suc n else last_watcher watched atom n

-- the chains of the actions below a number: where each atom's begins, and what stands before each
-- action
pub record AreChains (watched : List WatchedAtoms) (last before : List ℕ) (count : ℕ) : Type 0 where
  pub each_action : length before ≡ count
  pub lasts : (atom : ℕ) → atom < length last → get_or last atom 0 ≡ last_watcher watched atom count
  pub befores : (atom n : ℕ) → atom < length last → n < count → is_watcher watched atom n ≡ true
      → get_or before n 0 ≡ last_watcher watched atom n

-- where chains begin with one action more
abbrev pub last_with : List ℕ → WatchedAtoms → ℕ → List ℕ
last_with last Always n = last
last_with last (Atoms i j) n = set last i (n + 1)

-- where the chain of what is watched first began before
abbrev pub last_in : List ℕ → WatchedAtoms → ℕ
last_in last Always = 0
last_in last (Atoms i j) = get_or last i 0

-- no chain begins at the eight atoms from this one on
abbrev pub BeginsNone : List ℕ → ℕ → Type 0
BeginsNone last first = (atom : ℕ) → first ≤ atom → atom < first + 8 → get_or last atom 0 ≡ 0

-- by eight atoms, whether they are looked at: where not, no chain begins at them
abbrev pub SkipsNone : List ℕ → List Bool → Type 0
SkipsNone last headed = (place : ℕ) → place < length headed → get_or headed place false ≡ false → BeginsNone last (8 * place)
