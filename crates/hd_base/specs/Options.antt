-- What follows a value that may be missing, and the first of two values: std's words, written
-- between their operands.
use Rattle.std.specs.Prelude.{Option, option_and_then}
use Rattle.std.specs.Option.{option_or}

infixl 10 ◌>>=◌
-- what follows a value, if there is one
abbrev pub ◌>>=◌ : {A B : Type 0} → Option A → (A → Option B) → Option B
o >>= f = option_and_then f o

infixr 10 ◌or◌
-- the first of two, of which each may be missing
abbrev pub ◌or◌ : {A : Type 0} → Option A → Option A → Option A
a or b = option_or a b
