-- Packed states one after the other in bytes, each in as many. (Our own.)
use Rattle.std.specs.Prelude.{◌≡◌, ℕ, zero, suc, ◌*◌, ◌≤◌, List, [], ◌∷◌, length, take, drop}
use Rattle.hd_task.specs.declared.state.State.{State}
use Rattle.hd_task.specs.declared.task.TheConstants.{MAX_ATOMS, MAX_FLUENTS}
use Rattle.hd_pack.specs.Packing.{unpacked, IsPacking}

-- the bytes of the row at a place
abbrev pub row_in : ℕ → List ℕ → ℕ → List ℕ
row_in width bytes place = take width (drop (place * width) bytes)

-- the states of so many rows, by the state of a row
abbrev pub states_in : (List ℕ → State) → ℕ → List ℕ → ℕ → List State
states_in state width bytes zero = []
states_in state width bytes (suc count) = state (take width bytes) ∷ states_in state width (drop width bytes) count

-- bytes are so many rows, each of as many bytes, and each is as it should be
abbrev pub AreRows : (List ℕ → Type 0) → ℕ → List ℕ → ℕ → Type 0
AreRows P width bytes zero = bytes ≡ []
AreRows P width bytes (suc count) = (width ≤ length bytes) × P (take width bytes) × AreRows P width (drop width bytes) count

-- bytes are the packing of a state of so many atoms and fluents
pub record IsWhole (atoms fluents : ℕ) (bytes : List ℕ) : Type 0 where
  pub packing : IsPacking atoms bytes
  pub values : length (unpacked atoms bytes).fluents ≡ fluents
  pub few_atoms : atoms ≤ MAX_ATOMS
  pub few : fluents ≤ MAX_FLUENTS
