-- Why a search can't be made again from entries, and how it is printed.
use Rattle.std.specs.Prelude.{◌≡◌, ℕ, ◌+◌, ◌<◌, ◌≤◌, List, ◌++◌, map, take, length, codes, decimal, Some, option_map, slice_get}
use Rattle.hd_task.specs.declared.task.Task.{Task}
use Rattle.hd_image.specs.declared.entry.Entry.{Entry}
use Rattle.hd_journal.specs.Journal.{kid_of}
use Rattle.hd_entries.specs.Resuming.{AreLegal}
use Rattle.hd_certify.specs.declared.error.RecoverError.{RecoverError}
use Rattle.hd_certify.specs.declared.error.RecoverError.TheVariants.{Full, Damaged, NoMemory}

-- the printed form: the refusal's number, its name, and the place in decimal; lack of memory has no
-- number
abbrev pub text_of : RecoverError → List ℕ
text_of Full = codes "31 Full"
text_of (Damaged at) = codes "34 Damaged(" ++ decimal at ++ codes ")"
text_of NoMemory = codes "NoMemory"

-- the first faulty entry stands at this place: those before it name a legal list, and no entries do
-- that begin with it and them
pub record IsDamagedAt (t : Task) (entries : List Entry) (at : ℕ) : Type 0 where
  pub number : ℕ
  pub place : option_map (λ (e : Entry). e.at) (slice_get entries number) ≡ Some at
  pub legal_before : AreLegal t (map kid_of (take number entries))
  pub faulty : AreLegal t (map kid_of (take (number + 1) entries)) → ⊥
  pub illegal : AreLegal t (map kid_of entries) → ⊥

-- why entries are refused: there are more than there may be; or there are not, and the first faulty
-- one stands at this place, or there is no memory
abbrev pub IsRecoverRefusal : Task → ℕ → List Entry → RecoverError → Type 0
IsRecoverRefusal t most entries Full = most < length entries
IsRecoverRefusal t most entries (Damaged at) = (length entries ≤ most) × IsDamagedAt t entries at
IsRecoverRefusal t most entries NoMemory = length entries ≤ most
