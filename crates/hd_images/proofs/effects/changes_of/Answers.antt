use Rattle.std.proofs.Common.{◌∙◌, ap, arith}
use Rattle.hd_images.specs.Gathering.{change_at}
use Rattle.hd_images.proofs.Gathered.{change_in-more}
use Rattle.hd_images.proofs.effects.changes_of.Goals as goal

pub loop-effect-preserved : goal.loop-effect-preserved
loop-effect-preserved c = λ n.
    c.in_ok-gather.ensures n
    ∙ (ap (change_at c.args.fluents.now c.args.objects.now c.effect-item.result n) (c.loop-effect.invariant n)
    ∙ change_in-more c.args.fluents.now c.args.objects.now c.args.effects.now c.loop-effect.effect-index c.effect-item.result n (omega arith) c.effect-item.is)
