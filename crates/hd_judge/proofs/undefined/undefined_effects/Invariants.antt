use Rattle.std.proofs.Common.{◌≡◌, None, take}
use Rattle.std.specs.Prelude.{flat_map}
use Rattle.hd_lifted.specs.Met.{met_by_effect}
use Rattle.hd_lifted.specs.Questions.{first_undefined}
use Rattle.hd_judge.proofs.undefined.undefined_effects.Given as goal

abbrev pub invariant-loop-effect : goal.invariant-loop-effect
invariant-loop-effect l = first_undefined l.lookups (flat_map (met_by_effect l.objects) (take l.effect-index l.effects)) ≡ None
