-- In how many groups entries stand, by their places. (Our own.)
use Rattle.std.specs.Prelude.{ℕ, ◌+◌, ◌==◌, Bool, false, if◌then◌else◌, List, [], ◌∷◌, Option, Some, None}
use Rattle.hd_image.specs.declared.entry.Entry.{Entry}

-- an entry stands at once after the one before it, if there is one
abbrev pub follows : ℕ → Option ℕ → ℕ → Bool
follows width None at = false
follows width (Some last) at = at == last + width

-- how many entries do not
abbrev pub count_groups : ℕ → Option ℕ → List Entry → ℕ
count_groups width last [] = 0
count_groups width last (e ∷ entries) = (if follows width last e.at then 0 else 1) + count_groups width (Some e.at) entries
