-- What the bytes that a disk in memory keeps stand for, and what becomes of them. (Our own.)
use Rattle.std.specs.Prelude.{◌≡◌, ℕ, ◌<◌, ◌≤◌, Bool, false, not, ◌&&◌, nat_lt, List, length, take, slice_index, slice_index_or}
use Rattle.std.specs.Vec.{vec_capacity}
use Rattle.hd_store.specs.declared.platter.Platter.{Platter}

-- what a read gives: the bytes up to the length
abbrev pub content_of : Platter → List ℕ
content_of platter = take platter.len platter.bytes.items

-- there is room for so many bytes, if there are not so many
abbrev pub HasByteRoom : Platter → ℕ → Type 0
HasByteRoom held end = held.len < end → (end ≤ vec_capacity held.bytes) × (end ≤ vec_capacity held.written)

-- all that is held is read and sure
pub record IsAllSure (held : Platter) : Type 0 where
  pub whole : length held.bytes.items ≡ held.len
  pub count : length held.written.items ≡ held.len
  pub marks : (place : ℕ) → place < held.len → slice_index_or held.written.items place false ≡ false
  pub least : held.least ≡ held.len
  pub greatest : held.greatest ≡ held.len

-- what is held is as before, but for room
pub record IsUnchanged (old new : Platter) : Type 0 where
  pub bytes : new.bytes.items ≡ old.bytes.items
  pub marks : new.written.items ≡ old.written.items
  pub len : new.len ≡ old.len
  pub least : new.least ≡ old.least
  pub greatest : new.greatest ≡ old.greatest

-- All that is held now is sure, and as long as it may have been at most before; a byte that was not
-- written since the last sync is as it stood, any other is this one.
pub record IsFilledUp (old : Platter) (fill : ℕ) (new : Platter) : Type 0 where
  pub all : IsAllSure new
  pub len : new.len ≡ old.greatest
  pub sure :
      (place : ℕ) → place < old.greatest → place < length old.written.items → slice_index_or old.written.items place false ≡ false
      → slice_index new.bytes.items place ≡ slice_index old.bytes.items place
  pub filled :
      (place : ℕ) → place < old.greatest → nat_lt place (length old.written.items) && not (slice_index_or old.written.items place false) ≡ false
      → slice_index new.bytes.items place ≡ fill
