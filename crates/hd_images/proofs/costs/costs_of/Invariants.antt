use Rattle.std.proofs.Common.{◌≡◌, map, filter, take}
use Rattle.hd_lifted.specs.declared.schema.NumericEffect.{NumericEffect}
use Rattle.hd_lifted.specs.Questions.{is_paid}
use Rattle.hd_grounding.specs.Images.{amount_of}
use Rattle.hd_images.proofs.costs.costs_of.Given as goal

abbrev pub invariant-loop-effect : goal.invariant-loop-effect
invariant-loop-effect l =
    l.costs.items ≡ map (λ (e : NumericEffect). amount_of l.lookups l.fluents l.objects e.amount) (filter is_paid (take l.effect-index l.schema.effects))
