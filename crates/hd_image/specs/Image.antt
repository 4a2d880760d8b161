-- The bytes of a journal: a header, then groups of entries, with a gate, one byte, before the
-- header, before each group, and at the end. Numbers stand with their lowest byte first. (Our own
-- format.)
use Rattle.std.specs.Prelude.{◌≡◌, ◌⊎◌, ℕ, ◌+◌, ◌-◌, ◌^◌, ◌<◌, ◌≤◌, ◌==◌, ◌||◌, Bool, nat_lt, if◌then◌else◌, List, [], ◌∷◌, ◌++◌, length, codes}
use Rattle.std.specs.List.{flat_map, AllByRecursion}
use Rattle.byteorder.specs.Endian.{little_bytes}
use Rattle.hd_task.specs.declared.plan.Kid.{Kid}
use Rattle.hd_task.specs.declared.plan.TheConstants.{ROOT_PARENT}
use Rattle.hd_image.specs.declared.version.Version.{Version}
use Rattle.hd_image.specs.declared.version.Version.TheVariants.{One, Two}
use Rattle.hd_image.specs.declared.entry.Entry.{Entry}
use Rattle.hd_image.specs.declared.entry.TheConstants.{MAX_GROUP}

-- ---- versions

-- the byte that reports the version
abbrev pub version_byte : Version → ℕ
version_byte One = 1
version_byte Two = 2

-- how many bytes a parent takes
abbrev pub parent_width : Version → ℕ
parent_width One = 4
parent_width Two = 5

-- how many bytes an entry takes: its parent, and four for its action
abbrev pub entry_width : Version → ℕ
entry_width v = parent_width v + 4

-- the number that stands for the root's parent: the greatest of that width
abbrev pub root_number : Version → ℕ
root_number One = 2 ^ 32 - 1
root_number Two = 2 ^ 40 - 1

-- how many entries a journal may have at most
abbrev pub most_of : Version → ℕ
most_of v = root_number v - 1

-- ---- parents

-- a parent may be written: it is the root's, or the number of an entry that the journal may have
abbrev pub fits_parent : Version → ℕ → Bool
fits_parent v parent = (parent == ROOT_PARENT) || nat_lt parent (most_of v)

-- a parent that bytes can tell: it is the root's, or a number that does not stand for the root's
abbrev pub HasNumber : Version → ℕ → Type 0
HasNumber v parent = (parent ≡ ROOT_PARENT) ⊎ (parent < root_number v)

-- the number that stands for a parent
abbrev pub parent_number : Version → ℕ → ℕ
parent_number v parent = if parent == ROOT_PARENT then root_number v else parent

-- ---- entries

-- a pair that bytes can tell
pub record HasBytes (v : Version) (kid : Kid) : Type 0 where
  pub parent : HasNumber v kid.parent
  pub action : kid.action < 2 ^ 32

-- the bytes of an entry: the number of its parent, and its action
unfoldable pub entry_bytes : Version → Kid → List ℕ
entry_bytes v kid = little_bytes (parent_width v) (parent_number v kid.parent) ++ little_bytes 4 kid.action

-- ---- groups

-- a group has 1 to 65,536 entries
pub record IsGroup (v : Version) (kids : List Kid) : Type 0 where
  pub some : 1 ≤ length kids
  pub most : length kids ≤ MAX_GROUP
  pub held : AllByRecursion (HasBytes v) kids

-- a group without its gate: its count, and its entries
unfoldable pub counted : Version → List Kid → List ℕ
counted v kids = little_bytes 4 (length kids) ++ flat_map (entry_bytes v) kids

-- a group after its open gate
abbrev pub opened : Version → List Kid → List ℕ
opened v kids = 1 ∷ counted v kids

-- ---- a journal

-- a header without its gate: four letters, the version, and the digest of the task
abbrev pub header : Version → List ℕ → List ℕ
header v digest = codes "HDPJ" ++ version_byte v ∷ digest

-- all before the last gate, with all gates open
abbrev pub front : Version → List ℕ → List (List Kid) → List ℕ
front v digest groups = 1 ∷ header v digest ++ flat_map (opened v) groups

-- a journal of these groups: all their gates are open, and the last gate is closed
abbrev pub image : Version → List ℕ → List (List Kid) → List ℕ
image v digest groups = front v digest groups ++ 0 ∷ []

-- ---- entries with their places

-- the entry of a pair that stands at this place
abbrev pub entry_at : Kid → ℕ → Entry
entry_at kid at = record { parent = kid.parent; action = kid.action; at = at }

-- the entries of these pairs, of which the first stands at this place
abbrev pub entries_of : Version → ℕ → List Kid → List Entry
entries_of v at [] = []
entries_of v at (kid ∷ kids) = entry_at kid at ∷ entries_of v (at + entry_width v) kids

-- the entries of groups, of which the first has its gate at this place. A gate and a count take
-- five bytes; the next gate stands after the group
abbrev pub entries_in : Version → ℕ → List (List Kid) → List Entry
entries_in v gate [] = []
entries_in v gate (kids ∷ groups) = entries_of v (gate + 5) kids ++ entries_in v (gate + length (opened v kids)) groups
