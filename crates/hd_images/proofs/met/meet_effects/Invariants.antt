use Rattle.std.proofs.Common.{◌≡◌, take}
use Rattle.std.specs.Prelude.{flat_map}
use Rattle.hd_lifted.specs.Met.{met_by_effect}
use Rattle.hd_images.specs.Meeting.{with_forms}
use Rattle.hd_images.proofs.met.meet_effects.Given as goal

abbrev pub invariant-loop-effect : goal.invariant-loop-effect
invariant-loop-effect l = l.forms ≡ with_forms l.fn.forms (flat_map (met_by_effect l.objects) (take l.effect-index l.effects))
