-- What is kept of a content that is damaged. (Our own.)
use Rattle.std.specs.Prelude.{◌≡◌, ℕ, List, [], Option, Some, None}
use Rattle.hd_image.specs.declared.contents.Found.{Found}
use Rattle.hd_image.specs.declared.contents.Found.TheVariants.{Journal}
use Rattle.hd_image.specs.declared.error.ImageError.{ImageError}
use Rattle.hd_image.specs.declared.error.ImageError.TheVariants.{NotAJournal, OtherTask, Damaged, NoMemory}
use Rattle.hd_image.specs.Reading.{IsFound, IsNoJournal, IsOtherTask, IsDamaged, contents_of}

-- what is found in a content: all that it is, if nothing is dropped; else it is damaged at
-- this place, and found is a journal of just the groups that stand before it, with a closed gate
-- after them
abbrev pub IsFoundUpTo : List ℕ → List ℕ → Option ℕ → Found → Type 0
IsFoundUpTo digest content None found = IsFound digest content found
IsFoundUpTo digest content (Some at) found =
    (damaged : IsDamaged digest content at) × (found ≡ Journal (contents_of damaged.v damaged.head damaged.groups 0 []))

-- why nothing is found in a content; that it is damaged is no reason, and lack of memory says
-- nothing of it
abbrev pub IsLost : List ℕ → List ℕ → ImageError → Type 0
IsLost digest content NotAJournal = IsNoJournal content
IsLost digest content OtherTask = IsOtherTask digest content
IsLost digest content (Damaged at) = ⊥
IsLost digest content NoMemory = Unit {0}
