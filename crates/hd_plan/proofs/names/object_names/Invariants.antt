use Rattle.std.proofs.Common.{◌≡◌, ◌++◌, length}
use Rattle.hd_lifted.specs.WellFormed.{AreNew}
use Rattle.hd_plan.specs.Tables.{names_of_objects}
use Rattle.hd_plan.proofs.names.object_names.Given as goal

-- the names so far, and then those of the rest, which are none of them
abbrev pub invariant-loop-rest : goal.invariant-loop-rest
invariant-loop-rest l = record {
  names : l.names ++ names_of_objects l.rest ≡ names_of_objects l.objects;
  new : AreNew l.names (names_of_objects l.rest);
}

abbrev pub decreases-loop-rest : goal.decreases-loop-rest
decreases-loop-rest l = length l.rest
