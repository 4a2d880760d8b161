-- What a stop may leave in a file, where what a device was asked for last may have had any part of
-- its effect. (Our own.)
use Rattle.std.specs.Prelude.{◌≡◌, ◌⊎◌, ℕ, ◌≤◌, List, [], ◌∷◌, ◌++◌, length, take, drop}
use Rattle.std.specs.List.{AllByRecursion}
use Rattle.hd_task.specs.declared.plan.Kid.{Kid}
use Rattle.hd_image.specs.declared.version.Version.{Version}
use Rattle.hd_image.specs.declared.contents.Contents.{Contents}
use Rattle.hd_image.specs.declared.contents.Found.TheVariants.{Unmade, HalfMade, Journal}
use Rattle.hd_image.specs.declared.header.TheConstants.{FIRST_GATE}
use Rattle.hd_image.specs.Image.{IsGroup, counted, header, front, image, entries_in}
use Rattle.hd_image.specs.Reading.{IsHalfMade, IsFound, contents_of}

-- ---- while a group is appended, or a file is mended

-- the last gate is closed, and anything may stand after it. So it is while a group is written
-- there, and while it is cut off again
pub record IsGateClosed (v : Version) (digest : List ℕ) (groups : List (List Kid)) (content : List ℕ) : Type 0 where
  pub behind : List ℕ
  pub whole : content ≡ front v digest groups ++ 0 ∷ behind

-- the last gate may read anything, and the next group stands after it, whole, with the next gate
-- closed. So it is while the gate is opened, and while it is closed again
pub record IsOpening (v : Version) (digest : List ℕ) (groups : List (List Kid)) (next : List Kid) (content : List ℕ) : Type 0 where
  pub gate : ℕ
  pub whole : content ≡ front v digest groups ++ gate ∷ (counted v next ++ 0 ∷ [])

-- what a stop may leave while the next group is appended after these
abbrev pub IsBeforeOrAfter : Version → List ℕ → List (List Kid) → List Kid → List ℕ → Type 0
IsBeforeOrAfter v digest groups next content = IsGateClosed v digest groups content ⊎ IsOpening v digest groups next content

-- ---- while a header is made

-- the header's gate may read anything, and the header stands after it, whole, with the first
-- group's gate closed
pub record IsOpeningHeader (v : Version) (digest content : List ℕ) : Type 0 where
  pub gate : ℕ
  pub whole : content ≡ gate ∷ header v digest ++ 0 ∷ []

-- what a stop may leave while a header is made: a byte at most, a closed gate with anything after
-- it that is no longer than a header and the first group's gate, or a whole header whose gate is
-- being opened
abbrev pub IsMaking : Version → List ℕ → List ℕ → Type 0
IsMaking v digest content = (length content ≤ 1) ⊎ (IsHalfMade content ⊎ IsOpeningHeader v digest content)

-- ---- how that is read

-- the content is read as a journal of just these groups
pub record ReadsAsGroups (digest content : List ℕ) (v : Version) (groups : List (List Kid)) : Type 0 where
  pub head : ℕ
  pub gate : ℕ
  pub behind : List ℕ
  pub found : IsFound digest content (Journal (contents_of v head groups gate behind))

-- the content is the journal of these groups and the next one
pub record IsAfter (digest content : List ℕ) (v : Version) (groups : List (List Kid)) (next : List Kid) : Type 0 where
  pub reads : ReadsAsGroups digest content v (groups ++ next ∷ [])
  pub whole : content ≡ image v digest (groups ++ next ∷ [])

-- a header that is still to be made, or a journal of no groups
abbrev pub ReadsAsNone : List ℕ → List ℕ → Version → Type 0
ReadsAsNone digest content v = IsFound digest content Unmade ⊎ (IsFound digest content HalfMade ⊎ ReadsAsGroups digest content v [])

-- ---- mending

-- with its header's gate opened, its last gate closed and what stands after that cut off, a
-- content is the journal of groups, whose entries are those that were found
pub record MendsTo (digest content : List ℕ) (found : Contents) : Type 0 where
  pub groups : List (List Kid)
  pub sound : AllByRecursion (IsGroup found.version) groups
  pub entries : found.entries ≡ entries_in found.version FIRST_GATE groups
  pub whole : 1 ∷ drop 1 (take found.last_gate content) ++ 0 ∷ [] ≡ image found.version digest groups
