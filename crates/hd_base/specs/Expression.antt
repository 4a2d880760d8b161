-- Numeric expressions, as contracts see them (PDDL 2.1).
use Rattle.std.specs.Prelude.{ℕ, ◌+◌}
use Rattle.hd_base.specs.declared.operation.Operation.{Operation}

-- a leaf; another expression with its sign turned; what is made of two others
pub data Expression (L : Type 0) : Type 0 where
  leaf : L → Expression L
  negate : Expression L → Expression L
  binary : Operation → Expression L → Expression L → Expression L

-- how many operations are in it
abbrev pub depth : {L : Type 0} → Expression L → ℕ
depth (leaf l) = 0
depth (negate x) = 1 + depth x
depth (binary o x y) = 1 + (depth x + depth y)
