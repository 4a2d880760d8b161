-- How lists begin.
use Rattle.std.specs.Prelude.{◌≡◌, List, ◌++◌}

-- a list begins with another
abbrev pub BeginsWith : {I : Type 0} → List I → List I → Type 0
BeginsWith {I} xs begin = (more : List I) × (xs ≡ begin ++ more)
