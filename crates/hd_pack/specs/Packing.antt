-- How a state is packed: a bit for each atom, then eight bytes for each fluent. (Our own.)
use Rattle.std.specs.Prelude.{◌≡◌, ℕ, ◌+◌, ◌*◌, ◌/◌, ◌%◌, ◌==◌, ◌&&◌, Bool, if◌then◌else◌, List, [], ◌∷◌, ◌++◌, length, map, take, drop, get_or, set, ℤ, nat_eq, ◌^◌, bit_xor, FitsSigned}
use Rattle.std.specs.Int.{w64, cast_signed, cast_unsigned, to_le_bytes, from_le_bytes, bit_at}
use Rattle.std.specs.List.{flat_map, range_with_len, AllByRecursion}
use Rattle.std.specs.Cmp.Lexicographic.{pointwise}
use Rattle.hd_task.specs.declared.state.State.{State}

-- the byte of at most eight bits, the least first
abbrev pub byte_of : List Bool → ℕ
byte_of [] = 0
byte_of (b ∷ bs) = (if b then 1 else 0) + 2 * byte_of bs

-- atoms, eight a byte; the last byte's unused bits are 0
abbrev pub atom_bytes : List Bool → List ℕ
atom_bytes [] = []
atom_bytes (a ∷ b ∷ c ∷ d ∷ e ∷ f ∷ g ∷ h ∷ more) = byte_of (a ∷ b ∷ c ∷ d ∷ e ∷ f ∷ g ∷ h ∷ []) ∷ atom_bytes more
atom_bytes (b ∷ bs) = byte_of (b ∷ bs) ∷ []

-- a fluent's value: two's complement of 64 bits, the least byte first
abbrev pub value_bytes : ℤ → List ℕ
value_bytes v = to_le_bytes w64 (cast_unsigned w64 v)

-- the bytes of a state
unfoldable pub packed_bytes : State → List ℕ
packed_bytes s = atom_bytes s.atoms ++ flat_map value_bytes s.fluents

-- ---- back

-- how many bytes so many atoms take
abbrev pub bytes_for : ℕ → ℕ
bytes_for n = (n + 7) / 8

-- the atom of this number: bit `i mod 8` of byte `i div 8`
abbrev pub atom_in : List ℕ → ℕ → Bool
atom_in bytes i = bit_at (get_or bytes (i / 8) 0) (i % 8) == 1

-- the values that stand in bytes, eight each
abbrev pub values_in : List ℕ → List ℤ
values_in (a ∷ b ∷ c ∷ d ∷ e ∷ f ∷ g ∷ h ∷ more) = cast_signed w64 (from_le_bytes w64 (a ∷ b ∷ c ∷ d ∷ e ∷ f ∷ g ∷ h ∷ [])) ∷ values_in more
values_in few = []

-- the state of so many atoms that stands in bytes
unfoldable pub unpacked : ℕ → List ℕ → State
unpacked n bytes = record { atoms = map (atom_in bytes) (range_with_len 0 n); fluents = values_in (drop (bytes_for n) bytes) }

-- bytes are the packing of the state of so many atoms that stands in them, and its values fit 64
-- bits
pub record IsPacking (n : ℕ) (bytes : List ℕ) : Type 0 where
  pub packed : bytes ≡ packed_bytes (unpacked n bytes)
  pub fit : AllByRecursion (FitsSigned w64) (unpacked n bytes).fluents

-- bytes in which the atom of this number is turned round
abbrev pub flipped : List ℕ → ℕ → List ℕ
flipped bytes i = set bytes (i / 8) (bit_xor (get_or bytes (i / 8) 0) (2 ^ (i % 8)))

-- bytes of which eight are replaced
abbrev pub replaced : ℕ → List ℕ → List ℕ → List ℕ
replaced n xs ys = take n xs ++ (ys ++ drop 8 (drop n xs))

-- ---- two packed states

-- whether two packed states are the same: as many atoms, and the same bytes
unfoldable pub same_packing : State → State → Bool
same_packing s t = nat_eq (length s.atoms) (length t.atoms) && pointwise nat_eq (packed_bytes s) (packed_bytes t)
