use Rattle.std.proofs.Common.{◌≡◌, length}
use Rattle.hd_lifted.specs.Effects.{effects_clash}
use Rattle.hd_lifted.proofs.reading.effects_clash.Given as goal

abbrev pub invariant-loop-rest : goal.invariant-loop-rest
invariant-loop-rest l = effects_clash l.objects l.effects ≡ effects_clash l.objects l.rest

abbrev pub decreases-loop-rest : goal.decreases-loop-rest
decreases-loop-rest l = length l.rest
