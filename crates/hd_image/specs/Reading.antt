-- What a file's bytes are read as. (Our own.)
use Rattle.std.specs.Prelude.{◌≡◌, ◌≢◌, ◌⊎◌, ℕ, ◌+◌, ◌<◌, ◌≤◌, ◌==◌, List, ◌∷◌, ◌++◌, length, Result, Ok, Err}
use Rattle.std.specs.List.{flat_map, AllByRecursion}
use Rattle.hd_task.specs.declared.plan.Kid.{Kid}
use Rattle.hd_image.specs.declared.version.Version.{Version}
use Rattle.hd_image.specs.declared.header.TheConstants.{FIRST_GATE, DIGEST_LEN}
use Rattle.hd_image.specs.declared.contents.Contents.{Contents}
use Rattle.hd_image.specs.declared.contents.Found.{Found}
use Rattle.hd_image.specs.declared.contents.Found.TheVariants.{Unmade, HalfMade, Journal}
use Rattle.hd_image.specs.declared.error.ImageError.{ImageError}
use Rattle.hd_image.specs.declared.error.ImageError.TheVariants.{NotAJournal, OtherTask, Damaged, NoMemory}
use Rattle.hd_image.specs.Image.{IsGroup, counted, opened, header, entries_in}

-- ---- the header

-- a header was being made: its gate is closed, and no group stands after it
pub record IsHalfMade (content : List ℕ) : Type 0 where
  pub rest : List ℕ
  pub closed : content ≡ 0 ∷ rest
  pub some : 1 ≤ length rest
  pub short : length rest ≤ FIRST_GATE

-- a header may have this gate where so many bytes stand after it: the gate is open, or it was
-- being opened, and then the first group's gate alone stands after the header
abbrev pub IsHead : ℕ → ℕ → Type 0
IsHead head behind = ((head ≡ 1) × (1 ≤ behind)) ⊎ ((head ≢ 0) × (head ≢ 1) × (behind ≡ 1))

-- a header with this gate stands at the front, and the body after it
pub record IsHeaded (content : List ℕ) (head : ℕ) (v : Version) (digest body : List ℕ) : Type 0 where
  pub whole : content ≡ head ∷ header v digest ++ body
  pub digest_len : length digest ≡ DIGEST_LEN
  pub gate : IsHead head (length body)

-- there is more than the place of a header's gate, but no header, nor one that was being made
pub record IsNoJournal (content : List ℕ) : Type 0 where
  pub some : 1 < length content
  pub not_half : ¬ IsHalfMade content
  pub not_headed : (head : ℕ) (v : Version) (digest body : List ℕ) → ¬ IsHeaded content head v digest body

-- the header of another task stands at the front
pub record IsOtherTask (digest content : List ℕ) : Type 0 where
  pub head : ℕ
  pub v : Version
  pub other : List ℕ
  pub body : List ℕ
  pub headed : IsHeaded content head v other body
  pub differs : other ≢ digest

-- ---- the groups

-- a whole group and the byte of the next gate stand after an open gate
pub record HasGroup (v : Version) (behind : List ℕ) : Type 0 where
  pub kids : List Kid
  pub next : List ℕ
  pub group : IsGroup v kids
  pub gate : 0 < length next
  pub whole : behind ≡ counted v kids ++ next

-- the header of this task stands at the front, then whole groups, and then, here, an open gate
-- without a whole group after it
pub record IsDamaged (digest content : List ℕ) (at : ℕ) : Type 0 where
  pub head : ℕ
  pub v : Version
  pub groups : List (List Kid)
  pub behind : List ℕ
  pub headed : IsHeaded content head v digest (flat_map (opened v) groups ++ 1 ∷ behind)
  pub sound : AllByRecursion (IsGroup v) groups
  pub torn : ¬ HasGroup v behind
  pub place : at ≡ FIRST_GATE + length (flat_map (opened v) groups)

-- what is reported of a journal by its version, its header's gate, its groups, its last gate, and
-- what stands after that
abbrev pub contents_of : Version → ℕ → List (List Kid) → ℕ → List ℕ → Contents
contents_of v head groups gate behind =
    record {
      version = v;
      entries = entries_in v FIRST_GATE groups;
      last_gate = FIRST_GATE + length (flat_map (opened v) groups);
      header_open = head == 1;
      gate_closed = gate == 0;
      behind = length behind;
    }

-- the header of this task stands at the front, then groups, then a gate that is not open, and
-- anything; and just this is reported
pub record IsJournal (digest content : List ℕ) (found : Contents) : Type 0 where
  pub head : ℕ
  pub v : Version
  pub groups : List (List Kid)
  pub gate : ℕ
  pub behind : List ℕ
  pub headed : IsHeaded content head v digest (flat_map (opened v) groups ++ gate ∷ behind)
  pub sound : AllByRecursion (IsGroup v) groups
  pub ends : gate ≢ 1
  pub told : found ≡ contents_of v head groups gate behind

-- ---- the answers

-- what a content is, for the task of this digest
abbrev pub IsFound : List ℕ → List ℕ → Found → Type 0
IsFound digest content Unmade = length content ≤ 1
IsFound digest content HalfMade = IsHalfMade content
IsFound digest content (Journal found) = IsJournal digest content found

-- why a content is no sound journal of the task; lack of memory says nothing of it
abbrev pub IsRefused : List ℕ → List ℕ → ImageError → Type 0
IsRefused digest content NotAJournal = IsNoJournal content
IsRefused digest content OtherTask = IsOtherTask digest content
IsRefused digest content (Damaged at) = IsDamaged digest content at
IsRefused digest content NoMemory = Unit {0}

-- an answer that a content has
abbrev pub IsReadAnswer : List ℕ → List ℕ → Result Found ImageError → Type 0
IsReadAnswer digest content (Ok found) = IsFound digest content found
IsReadAnswer digest content (Err error) = IsRefused digest content error
