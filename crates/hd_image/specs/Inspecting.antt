-- What is reported of a file's bytes without the texts of a task. (Our own.)
use Rattle.std.specs.Prelude.{◌≡◌, ℕ, ◌≤◌, List, length}
use Rattle.hd_image.specs.declared.contents.Contents.{Contents}
use Rattle.hd_image.specs.declared.error.ImageError.{ImageError}
use Rattle.hd_image.specs.declared.error.ImageError.TheVariants.{NotAJournal, OtherTask, Damaged, NoMemory}
use Rattle.hd_image.specs.Reading.{IsHalfMade, IsNoJournal, IsDamaged, IsJournal}
use Rattle.hd_image.specs.declared.inspected.Summary.{Summary}
use Rattle.hd_image.specs.declared.inspected.Inspected.{Inspected}
use Rattle.hd_image.specs.declared.inspected.Inspected.TheVariants.{Unmade, HalfMade, Journal}

-- the bytes are a journal of some digest, and just this is reported of it: its version, the digest,
-- how many entries and groups it has, and how many bytes stand after its last gate
pub record IsSummary (content : List ℕ) (s : Summary) : Type 0 where
  pub digest : List ℕ
  pub found : Contents
  pub journal : IsJournal digest content found
  pub version_is : s.version ≡ journal.v
  pub digest_is : s.digest ≡ digest
  pub entries_are : s.entries ≡ length found.entries
  pub groups_are : s.groups ≡ length journal.groups
  pub behind_is : s.behind ≡ length journal.behind

-- what a file's bytes are
abbrev pub IsInspected : List ℕ → Inspected → Type 0
IsInspected content Unmade = length content ≤ 1
IsInspected content HalfMade = IsHalfMade content
IsInspected content (Journal s) = IsSummary content s

-- why they are no journal of any task, or a damaged one; lack of memory says nothing of them
abbrev pub IsRefused : List ℕ → ImageError → Type 0
IsRefused content NotAJournal = IsNoJournal content
IsRefused content OtherTask = ⊥
IsRefused content (Damaged at) = (digest : List ℕ) × IsDamaged digest content at
IsRefused content NoMemory = Unit {0}
