use Rattle.std.proofs.Common.{take}
use Rattle.std.specs.Prelude.{flat_map}
use Rattle.hd_grounding.specs.Faults.{met_by_instance}
use Rattle.hd_images.specs.Meeting.{IsMet}
use Rattle.hd_images.proofs.met.met_by_instances.Given as goal

abbrev pub invariant-loop-instance : goal.invariant-loop-instance
invariant-loop-instance l = IsMet 65536 (flat_map (met_by_instance l.task) (take l.instance-index l.instances)) l.forms
