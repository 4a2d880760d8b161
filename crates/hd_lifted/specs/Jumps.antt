-- Shortcuts up the types: depths and jumps. Only private contracts cite these definitions.
use Rattle.std.specs.Prelude.{◌≡◌, ℕ, zero, suc, ◌+◌, ◌⊎◌, List, length, slice_index_or}
use Rattle.hd_lifted.specs.declared.shortcuts.Shortcuts.{Shortcuts}
use Rattle.hd_lifted.specs.Types.{entry_of, parent_of, IsSubtype}

-- the steps that lead from a type to `object`, of which no more than a number are counted
abbrev pub height : List ℕ → ℕ → ℕ → ℕ
height parents zero t = 0
height parents (suc n) zero = 0
height parents (suc n) (suc t) = suc (height parents n (parent_of parents (suc t)))

-- how deep a type stands: the steps that lead from it to `object`, where none lies on a cycle
abbrev pub depth_in : List ℕ → ℕ → ℕ
depth_in parents t = height parents (length parents + 1) t

-- the depth that a list has for a type: 0 for `object`, and 1 for a number beyond the list
abbrev pub depth_of : List ℕ → ℕ → ℕ
depth_of depths zero = 0
depth_of depths (suc t) = slice_index_or depths t 1

-- the list has a type's depth
abbrev pub HasDepth : List ℕ → List ℕ → ℕ → Type 0
HasDepth parents depths t = depth_of depths t ≡ depth_in parents t

-- the type to which the jump from a type leads
abbrev pub jump_of : List ℕ → ℕ → ℕ
jump_of jumps t = entry_of jumps t

-- each jump leads to the type's parent or further up
abbrev pub AreJumps : List ℕ → List ℕ → Type 0
AreJumps parents jumps = (t : ℕ) → IsSubtype parents (parent_of parents t) (jump_of jumps t)

-- each type has its depth, and a jump
pub record AreShortcuts (parents depths jumps : List ℕ) : Type 0 where
  pub deep : (t : ℕ) → depth_of depths t ≡ depth_in parents t
  pub jumping : AreJumps parents jumps

-- the same of both lists together
abbrev pub HasShortcuts : List ℕ → Shortcuts → Type 0
HasShortcuts parents s = AreShortcuts parents s.depths.items s.jumps.items

-- the same while the lists are filled, where a type may still have the depth 0
pub record AreFilling (parents depths jumps : List ℕ) : Type 0 where
  pub same_depths : length depths ≡ length parents
  pub same_jumps : length jumps ≡ length parents
  pub deep : (t : ℕ) → (depth_of depths t ≡ 0) ⊎ (depth_of depths t ≡ depth_in parents t)
  pub jumping : AreJumps parents jumps

-- each type that had its depth still has it
abbrev pub StaysRight : List ℕ → List ℕ → List ℕ → Type 0
StaysRight parents old new = (t : ℕ) → depth_of old t ≡ depth_in parents t → depth_of new t ≡ depth_in parents t
