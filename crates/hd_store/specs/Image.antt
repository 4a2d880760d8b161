-- What a disk holds, by its past. (Our own.)
use Rattle.std.specs.Prelude.{◌≡◌, ℕ, List, [], ◌∷◌}
use Rattle.hd_store.specs.declared.change.DiskChange.{DiskChange}
use Rattle.hd_store.specs.declared.image.Image.{Image}
use Rattle.hd_store.specs.Past.{made_step, content_after}
use Rattle.hd_store.specs.Platter.{HasByteRoom}
use Rattle.hd_store.specs.Stop.{IsFilled}

-- what a read gives
abbrev pub content : Image → List ℕ
content image = content_after image.history.start image.history.steps

-- a disk that begins with these bytes
abbrev pub IsStarted : Image → List ℕ → Type 0
IsStarted image bytes = (image.history.start ≡ bytes) × (image.history.steps ≡ [])

-- the same past
abbrev pub IsLike : Image → Image → Type 0
IsLike old new = (new.history.start ≡ old.history.start) × (new.history.steps ≡ old.history.steps)

-- one step more, after which a read gives this
abbrev pub Steps : Image → DiskChange → List ℕ → Image → Type 0
Steps old change now new =
    (new.history.start ≡ old.history.start) × (new.history.steps ≡ made_step change now ∷ old.history.steps)

-- there is room for so many bytes
abbrev pub CanHold : Image → ℕ → Type 0
CanHold image end = HasByteRoom image.held end

-- a new start, with what is left where each byte that is not sure is this one
abbrev pub IsFilledWith : Image → ℕ → Image → Type 0
IsFilledWith old fill new = IsFilled old.history.start old.history.steps fill new.history.start × (new.history.steps ≡ [])
