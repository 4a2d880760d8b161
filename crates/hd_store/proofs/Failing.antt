-- Changes that failed.
use Rattle.std.proofs.Common.{◌≡◌, ℕ, ◌≤◌, ◌==◌, true, false, List, ◌∷◌, inr, length, refl, sym, arith}
use Rattle.std.proofs.lemmas.List.{take_all}
use Rattle.hd_store.specs.declared.change.DiskChange.TheVariants.{Cut}
use Rattle.hd_store.specs.declared.error.TheConstants.{MOST_FAILURES}
use Rattle.hd_store.specs.declared.file.FileStore.{FileStore}
use Rattle.hd_store.specs.Bytes.{IsPartOfCut}
use Rattle.hd_store.specs.Calls.{BreaksOff}
use Rattle.hd_store.specs.Device.{content_of, one_more}
use Rattle.hd_store.specs.FileStore.{device_of}
use Rattle.hd_store.specs.Past.{made_step}

-- nothing of a cut may have been done
nothing_cut : (content : List ℕ) (len : ℕ) → len ≤ length content → IsPartOfCut content len content
nothing_cut content len within = (length content, within, sym (take_all (length content) content (omega arith)))

-- a cut of a file failed, and the file is not asked any more
pub cut_failed :
    (old new : FileStore) (len : ℕ) → len ≤ length (content_of (device_of old)) → old.is_broken ≡ false → (old.failures == MOST_FAILURES) ≡ false
    → new.image.history.start ≡ old.image.history.start
    → new.image.history.steps ≡ made_step (Cut len) (content_of (device_of old)) ∷ old.image.history.steps
    → new.failures ≡ one_more old.failures → new.is_broken ≡ true
    → BreaksOff (device_of old) (Cut len) (IsPartOfCut (content_of (device_of old)) len) (device_of new)
cut_failed old new len within running few start steps failures closed = inr (
  rw (few, running) refl,
  (content_of (device_of old), nothing_cut (content_of (device_of old)) len within, rw (start, steps, failures, closed, running) refl),
)
