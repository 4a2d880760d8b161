use Rattle.std.proofs.Common.{◌∙◌, sym, arith}
use Rattle.hd_lifted.specs.Met.{met_by_effect}
use Rattle.hd_judge.proofs.Finding.{undefined_found}
use Rattle.hd_judge.proofs.undefined.undefined_effects.Goals as goal

pub returns-in-Some : goal.returns-in-Some
returns-in-Some c =
    sym (undefined_found c.args.lookups.now (met_by_effect c.args.objects.now) c.args.effects.now c.loop-effect.effect-index c.effect-item.result c.in-Some.fluent (omega arith)
    c.effect-item.is c.loop-effect.invariant (sym c.in-Some.is ∙ c.in_ok-fluent.ensures))
