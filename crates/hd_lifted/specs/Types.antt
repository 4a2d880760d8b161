-- The types: 0 is `object`, and each other type has one parent. A list has the parents of the types
-- 1, 2, ..
use Rattle.std.specs.Prelude.{◌≡◌, ◌≢◌, ℕ, zero, suc, ◌+◌, ◌==◌, Bool, ◌||◌, List, length, slice_index_or}

-- what a list with an entry for each of the types 1, 2, .. has for a type: 0 for `object` and for a
-- number beyond the list
abbrev pub entry_of : List ℕ → ℕ → ℕ
entry_of entries zero = 0
entry_of entries (suc t) = slice_index_or entries t 0

-- the parent of a type. That of `object` is `object`, and so is that of a number beyond the list
abbrev pub parent_of : List ℕ → ℕ → ℕ
parent_of parents t = entry_of parents t

-- where a number of steps lead, each from a type to its parent
abbrev pub ancestor : List ℕ → ℕ → ℕ → ℕ
ancestor parents zero t = t
ancestor parents (suc n) t = ancestor parents n (parent_of parents t)

-- each object of the first type is one of the second: the least reflexive and transitive relation
-- in which each type is below its parent, and all are below `object`
pub data IsSubtype (parents : List ℕ) : ℕ → ℕ → Type 0 where
  reflexive : (t : ℕ) → IsSubtype parents t t
  transitive : {t u v : ℕ} → IsSubtype parents t u → IsSubtype parents u v → IsSubtype parents t v
  listed : (t : ℕ) → IsSubtype parents t (parent_of parents t)
  object : (t : ℕ) → IsSubtype parents t 0

-- steps, at least one, lead from a type to itself. `object`, which has no parent, lies on no cycle
pub record IsOnCycle (parents : List ℕ) (t : ℕ) : Type 0 where
  pub below_object : t ≢ 0
  pub more_steps : ℕ
  pub returns : ancestor parents (suc more_steps) t ≡ t

-- no type lies on a cycle
abbrev pub IsAcyclic : List ℕ → Type 0
IsAcyclic parents = (t : ℕ) → IsOnCycle parents t → ⊥

-- from each type as many steps as there are types, `object` among them, lead to `object`
abbrev pub IsRooted : List ℕ → Type 0
IsRooted parents = (t : ℕ) → ancestor parents (length parents + 1) t ≡ 0

-- whether one of so many steps, each from a type to its parent, comes to a type
abbrev pub meets : List ℕ → ℕ → ℕ → ℕ → Bool
meets parents zero t u = t == u
meets parents (suc n) t u = (t == u) || meets parents n (parent_of parents t) u

-- the test of the relation, for types of which none lies on a cycle: as many steps as there are
-- types lead to `object`
abbrev pub is_subtype : List ℕ → ℕ → ℕ → Bool
is_subtype parents t u = meets parents (length parents + 1) t u
