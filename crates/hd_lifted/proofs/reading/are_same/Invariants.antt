use Rattle.std.proofs.Common.{◌≡◌, ℕ, List, map, length}
use Rattle.std.specs.Prelude.{nat_eq}
use Rattle.std.specs.Cmp.Lexicographic.{pointwise}
use Rattle.hd_lifted.specs.States.{object_of}
use Rattle.hd_lifted.proofs.reading.are_same.Given as goal

-- what is left decides
abbrev pub invariant-loop-left_rest : goal.invariant-loop-left_rest
invariant-loop-left_rest l =
    pointwise nat_eq (map (object_of l.objects) l.left) (map (object_of l.objects) l.right)
    ≡ pointwise nat_eq (map (object_of l.objects) l.left_rest) (map (object_of l.objects) l.right_rest)

abbrev pub decreases-loop-left_rest : goal.decreases-loop-left_rest
decreases-loop-left_rest l = length l.left_rest
