use Rattle.std.specs.Prelude.{◌↔◌, length}
use Rattle.hd_lifted.specs.Objects.{AreOfTypes}
use Rattle.hd_lifted.proofs.reading.are_of_subtypes.Given as goal

-- what is left decides
abbrev pub invariant-loop-objects_left : goal.invariant-loop-objects_left
invariant-loop-objects_left l = AreOfTypes l.task l.objects l.types ↔ AreOfTypes l.task l.objects_left l.types_left

abbrev pub decreases-loop-objects_left : goal.decreases-loop-objects_left
decreases-loop-objects_left l = length l.objects_left
