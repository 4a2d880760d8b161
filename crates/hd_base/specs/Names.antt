-- Names as the lists of their bytes.
use Rattle.std.specs.Prelude.{ℕ, Bool, List}
use Rattle.std.specs.List.{list_any}
use Rattle.std.specs.Str.{bytes_eq}

-- whether a name is one of these
abbrev pub is_named : List (List ℕ) → List ℕ → Bool
is_named names n = list_any (bytes_eq n) names
