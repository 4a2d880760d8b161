use Rattle.std.proofs.Common.{◌∙◌, ◌^◌, sym, ap, ap₂, subst, ◌≤◌, pos, SFits, to_z, of_z, arith, rules}
use Rattle.std.specs.Prelude.{ℤ, ◌*ℤ◌, nat_abs}
use Rattle.std.specs.Int.{w64, w128}
use Rattle.std.proofs.lemmas.Int.{ints, to_z-of_z, fits_signed_mul}
use Rattle.hd_base.specs.declared.range.TheConstants.{RANGE_END}
use Rattle.hd_base.specs.Numbers.{IsNear}
use Rattle.hd_judge.proofs.Changing.{abs_near, in_range_abs, near_product, near_wider}
use Rattle.hd_judge.proofs.effect.times.Goals as goal

pub returns-clause-near : goal.returns-clause-near
returns-clause-near c =
    let x = c.from.result in
    let y = c.from-2.result in
    let fv : SFits w64 c.args.value = search rules in
    let fa : SFits w64 c.args.amount = search rules in
    let near : IsNear 9223372036854775808 (pos 0) x = record { low = omega (arith, ints, c.ranges.value.sfits, c.from.ensures ∙ to_z-of_z w64 c.args.value fv); high = omega (arith, ints, c.ranges.value.sfits, c.from.ensures ∙ to_z-of_z w64 c.args.value fv) } in
    let also = ap nat_abs (c.from-2.ensures ∙ to_z-of_z w64 c.args.amount fa) in
    let small : nat_abs y ≤ RANGE_END = omega (arith, also, in_range_abs c.args.amount c.requires.in_range) in
    let fx : SFits w128 x = search rules in
    let fy : SFits w128 y = search rules in
    let fxy : SFits w128 (x *ℤ y) = fits_signed_mul w128 x y 9223372036854775808 RANGE_END (abs_near _ x near) small (omega arith) in
    subst (IsNear (2 ^ 114) (pos 0))
    (sym (ap₂ (λ (a b : ℤ). to_z w128 (of_z w128 (a *ℤ b))) (to_z-of_z w128 x fx) (to_z-of_z w128 y fy) ∙ to_z-of_z w128 (x *ℤ y) fxy))
    (near_wider _ _ _ (omega arith) (near_product x y 9223372036854775808 RANGE_END (abs_near _ x near) small))
