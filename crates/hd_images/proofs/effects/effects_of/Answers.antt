use Rattle.std.proofs.Common.{◌∙◌, List, sym, ap, subst}
use Rattle.std.proofs.lemmas.Result.{IfOk-weaker}
use Rattle.hd_lifted.specs.declared.schema.NumericEffect.{NumericEffect}
use Rattle.hd_images.specs.Gathering.{change_in}
use Rattle.hd_grounding.specs.Grounding.{HasEffectsOf}
use Rattle.hd_images.proofs.Exact.{effects-exactly}
use Rattle.hd_images.proofs.effects.effects_of.Goals as goal

pub returns : goal.returns
returns c =
    IfOk-weaker c.effects_from.result _ _
    (λ s e. subst (HasEffectsOf c.args.fluents.now c.args.objects.now c.args.schema.now) (sym e)
    (effects-exactly c.args.fluents.now c.args.objects.now c.args.schema.now c.in_ok-changes.changes c.effects_from.ensures.ordered (λ n. c.in_ok-changes.ensures n ∙ ap (λ (es : List NumericEffect). change_in c.args.fluents.now c.args.objects.now es n) c.as_slice.ensures)))
    c.effects_from.ensures.effects
