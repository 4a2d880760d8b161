-- The hash of a state: the exclusive or of a word for each true atom and each fluent with its value
-- (Zobrist 1970), where the words are the first ones of SplitMix64 (Steele, Lea and Flood 2014)
-- from numbers of their own.
use Rattle.std.specs.Prelude.{◌≡◌, ℕ, ◌+◌, ◌*◌, ◌<◌, Bool, false, not, if◌then◌else◌, List, [], ◌∷◌, length, get_or, Some, slice_get, set, ℤ, bit_xor}
use Rattle.std.specs.Int.{w64, cast_unsigned}
use Rattle.std.specs.List.{fold}
use Rattle.rand_xoshiro.specs.SplitMix64.{mix_u64}
use Rattle.hd_task.specs.declared.state.State.{State}
use Rattle.hd_zobrist.specs.declared.change.Change.{Change}
use Rattle.hd_zobrist.specs.declared.change.Change.TheVariants.{Atom, Fluent}

-- the first word of SplitMix64 from a number
unfoldable pub word : ℕ → ℕ
word k = (mix_u64 k).0

-- the word of an atom, where it is true
abbrev pub atom_word : ℕ → ℕ
atom_word i = word (2 * i)

-- the word of a fluent's number
abbrev pub place_word : ℕ → ℕ
place_word j = word (2 * j + 1)

-- the word of a fluent with a value, in two's complement of 64 bits
unfoldable pub fluent_word : ℕ → ℤ → ℕ
fluent_word j v = word (bit_xor (place_word j) (cast_unsigned w64 v))

-- the words of the atoms from this number on that are true
abbrev pub atoms_hash : ℕ → List Bool → ℕ
atoms_hash i [] = 0
atoms_hash i (b ∷ bs) = bit_xor (if b then atom_word i else 0) (atoms_hash (i + 1) bs)

-- the words of the fluents from this number on
abbrev pub fluents_hash : ℕ → List ℤ → ℕ
fluents_hash j [] = 0
fluents_hash j (v ∷ vs) = bit_xor (fluent_word j v) (fluents_hash (j + 1) vs)

-- the hash of a state
unfoldable pub state_hash : State → ℕ
state_hash s = bit_xor (atoms_hash 0 s.atoms) (fluents_hash 0 s.fluents)

-- ---- changes

-- what a change does to a hash, by exclusive or
abbrev pub change_word : Change → ℕ
change_word (Atom i) = atom_word i
change_word (Fluent j before after) = bit_xor (fluent_word j before) (fluent_word j after)

-- a hash after changes
abbrev pub updated : ℕ → List Change → ℕ
updated hash changes = fold (λ h c. bit_xor h (change_word c)) hash changes

-- a change is one of a state: there is the atom, or the fluent has the value that it had
abbrev pub IsChangeOf : State → Change → Type 0
IsChangeOf s (Atom i) = i < length s.atoms
IsChangeOf s (Fluent j before after) = slice_get s.fluents j ≡ Some before

-- the state after a change
abbrev pub changed : State → Change → State
changed s (Atom i) = record { atoms = set s.atoms i (not (get_or s.atoms i false)); fluents = s.fluents }
changed s (Fluent j before after) = record { atoms = s.atoms; fluents = set s.fluents j after }

-- changes lead from one state to another, one after the other
abbrev pub LeadTo : State → List Change → State → Type 0
LeadTo from [] to = from ≡ to
LeadTo from (c ∷ cs) to = IsChangeOf from c × LeadTo (changed from c) cs to
