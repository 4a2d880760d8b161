use Rattle.std.proofs.Common.{◌∙◌, ◌+◌, List, Some, length, get_or, sym, ap, SFits, arith, rules}
use Rattle.std.specs.Prelude.{ℤ, pos}
use Rattle.std.specs.Int.{w128}
use Rattle.std.specs.Int.Signed.{lt_z}
use Rattle.std.proofs.lemmas.Int.{ints, to_z-of_z}
use Rattle.hd_lifted.specs.declared.schema.NumericEffect.{NumericEffect}
use Rattle.hd_judge.specs.Constant.{constant_cost}
use Rattle.hd_judge.proofs.Summing.{sum-more, no_sum, whole_sum, below_zero}
use Rattle.hd_judge.proofs.negative.costs_negative.Goals as goal

pub returns-in-None : goal.returns-in-None
returns-in-None c =
    let t = c.args.lookups.now in
    let objects = c.args.objects.now in
    let i = c.loop-effect.effect-index in
    let e = c.effect-item.result in
    let now = c.in_ok-next.ensures.sum ∙ ap (λ (z : ℤ). constant_cost t objects (Some z) e) c.loop-effect.sum-is in
    let more = sum-more t objects c.args.schema.now.effects i e c.loop-effect.sum c.in_ok-next.field-0 (omega (arith, ap length c.as_slice-effect-items.ensures))
    (c.effect-item.is ∙ ap (λ (es : List NumericEffect). get_or es i e) c.as_slice-effect-items.ensures)
    (c.loop-effect.invariant.sum ∙ ap Some c.loop-effect.sum-is) now in
    sym (no_sum t c.args.schema.now objects (i + 1) (more ∙ c.in-None.is))

pub loop-effect-preserved : goal.loop-effect-preserved
loop-effect-preserved c =
    let t = c.args.lookups.now in
    let objects = c.args.objects.now in
    let i = c.loop-effect.effect-index in
    let e = c.effect-item.result in
    let fits : SFits w128 c.in-Some.next = search rules in
    let near = rw c.in-Some.is at c.in_ok-next.ensures.near in
    let now = c.in_ok-next.ensures.sum ∙ ap (λ (z : ℤ). constant_cost t objects (Some z) e) c.loop-effect.sum-is in
    let more = sum-more t objects c.args.schema.now.effects i e c.loop-effect.sum c.in_ok-next.field-0 (omega (arith, ap length c.as_slice-effect-items.ensures))
    (c.effect-item.is ∙ ap (λ (es : List NumericEffect). get_or es i e) c.as_slice-effect-items.ensures)
    (c.loop-effect.invariant.sum ∙ ap Some c.loop-effect.sum-is) now in
    record {
      sum = more ∙ (c.in-Some.is ∙ ap Some (sym (to_z-of_z w128 c.in-Some.next fits)));
      low = rw to_z-of_z (omega (arith, ints, near.low, c.loop-effect.sum-is));
      high = rw to_z-of_z (omega (arith, ints, near.high, c.loop-effect.sum-is));
    }

pub returns : goal.returns
returns c =
    ap (λ (z : ℤ). lt_z z (pos 0)) c.loop-effect.sum-is
    ∙ (below_zero c.loop-effect.sum
    ∙ sym (whole_sum c.args.lookups.now c.args.schema.now c.args.objects.now c.loop-effect.effect-index c.loop-effect.sum
    (omega (arith, ap length c.as_slice-effect-items.ensures)) (c.loop-effect.invariant.sum ∙ ap Some c.loop-effect.sum-is)))
