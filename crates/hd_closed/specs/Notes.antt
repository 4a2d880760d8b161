-- How the note of a state is found: notes whose states are in the same bucket are chained, the last
-- one first. (Hash tables with chains: Knuth 1973.)
use Rattle.std.specs.Prelude.{◌≡◌, ℕ, ◌^◌, ◌/◌, ◌%◌, ◌<◌, ◌≤◌, List, Option, Some, None, length, slice_get, slice_index_or}
use Rattle.hd_task.specs.declared.state.State.{State}
use Rattle.hd_zobrist.specs.Hash.{state_hash}
use Rattle.hd_closed.specs.declared.notes.Note.{Note}

-- the note of a hash of whose state nothing is known yet
abbrev pub note_of : ℕ → Option ℕ → Note
note_of hash before = record { hash = hash; value = None; least = None; before = before }

-- two notes say the same of a state
pub record IsAlike (n n' : Note) : Type 0 where
  pub hash : n'.hash ≡ n.hash
  pub value : n'.value ≡ n.value
  pub least : n'.least ≡ n.least

-- each note of the second list says the same as the one at its place in the first
pub record AreAlike (notes notes' : List Note) : Type 0 where
  pub as_many : length notes' ≡ length notes
  pub each : (k : ℕ) (n' : Note) → slice_get notes' k ≡ Some n' → (n : Note) × (slice_get notes k ≡ Some n) × IsAlike n n'

-- the bucket of a hash, of so many: by the upper half of its bits, since the lowest ones tell the
-- owner of a state where the number of workers is a power of two
abbrev pub bucket_at : ℕ → ℕ → ℕ
bucket_at hash buckets = (hash / 2 ^ 32) % buckets

-- the place that a bucket has
abbrev pub bucket_head : List (Option ℕ) → ℕ → Option ℕ
bucket_head heads b = slice_index_or heads b None

-- a state of this bucket, of so many, stands at a place
abbrev pub IsInBucket : List State → ℕ → ℕ → ℕ → Type 0
IsInBucket states buckets b k = (s : State) × (slice_get states k ≡ Some s) × (bucket_at (state_hash s) buckets ≡ b)

-- where the last state of this bucket stands that comes before a place, if there is one
abbrev pub IsLast : List State → ℕ → ℕ → ℕ → Option ℕ → Type 0
IsLast states buckets b upto None = (k : ℕ) → k < upto → IsInBucket states buckets b k → ⊥
IsLast states buckets b upto (Some q) =
    (q < upto) × IsInBucket states buckets b q × ((k : ℕ) → q < k → k < upto → IsInBucket states buckets b k → ⊥)

-- notes have the hashes of these states
pub record AreNotesOf (states : List State) (notes : List Note) : Type 0 where
  pub as_many : length notes ≡ length states
  pub hashes : (k : ℕ) (n : Note) (s : State) → slice_get notes k ≡ Some n → slice_get states k ≡ Some s → n.hash ≡ state_hash s

-- each of the first notes has the place of the one before it, and each bucket that of the last one
-- of them
pub record AreChained (states : List State) (notes : List Note) (heads : List (Option ℕ)) (count : ℕ) : Type 0 where
  pub before : (k : ℕ) (n : Note) → k < count → slice_get notes k ≡ Some n → IsLast states (length heads) (bucket_at n.hash (length heads)) k n.before
  pub last : (b : ℕ) → b < length heads → IsLast states (length heads) b count (bucket_head heads b)

-- all notes are chained, and there are no fewer buckets
pub record IsTable (states : List State) (notes : List Note) (heads : List (Option ℕ)) : Type 0 where
  pub notes_of : AreNotesOf states notes
  pub chained : AreChained states notes heads (length notes)
  pub enough : length notes ≤ length heads
