-- How the bytes of a name lie in it or outside of it.
use Rattle.std.specs.Prelude.{ℕ, ◌≤◌, List, take, string_bytes}
use Rattle.std.specs.Str.{IsUtf8}
use Rattle.hd_base.specs.declared.name.Spelling.{Spelling}
use Rattle.hd_base.specs.declared.name.Spelling.TheVariants.{Inside, Outside}
use Rattle.hd_base.specs.declared.name.TheConstants.{MOST_INSIDE}

-- the bytes that spell a name
abbrev pub bytes_of : Spelling → List ℕ
bytes_of (Inside len bytes) = take len bytes
bytes_of (Outside text) = string_bytes text.value

-- the bytes in a name are a text, and no more than it holds
abbrev pub IsText : Spelling → Type 0
IsText (Inside len bytes) = (len ≤ MOST_INSIDE) × ∥ IsUtf8 (take len bytes) ∥₁
IsText (Outside text) = Unit {0}
