-- How a disk in memory keeps what its steps say. (Our own.)
use Rattle.std.specs.Prelude.{◌≡◌, ℕ, ◌<◌, ◌≤◌, ◌^◌, Bool, false, List, length, take, slice_index, slice_index_or}
use Rattle.hd_store.specs.Past.{Step, content_after, synced_after, is_written, least_after, greatest_after}

-- The first `len` bytes are what is read. There is a mark for each place that the last sync made
-- sure of, which says whether it was written since; where it was not, its byte still stands there,
-- also after a cut.
pub record Holds (start : List ℕ) (steps : List Step) (bytes : List ℕ) (len : ℕ) (marks : List Bool) (least greatest : ℕ) : Type 0 where
  pub read : take len bytes ≡ content_after start steps
  pub count : length marks ≡ length (synced_after start steps)
  pub marked : (place : ℕ) → place < length marks → slice_index_or marks place false ≡ is_written steps place
  pub kept :
      (place : ℕ) → place < length marks → is_written steps place ≡ false
      → slice_index bytes place ≡ slice_index (synced_after start steps) place
  pub shortest : least ≡ least_after start steps
  pub longest : greatest ≡ greatest_after start steps
  pub order : least ≤ greatest
