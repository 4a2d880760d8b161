use Rattle.std.proofs.Common.{◌≡◌, None, take}
use Rattle.std.specs.Prelude.{find}
use Rattle.hd_grounding.specs.Faults.{is_negative_instance}
use Rattle.hd_images.proofs.negative.first_negative.Given as goal

abbrev pub invariant-loop-instance : goal.invariant-loop-instance
invariant-loop-instance l = find (is_negative_instance l.lookups) (take l.instance-index l.instances) ≡ None
