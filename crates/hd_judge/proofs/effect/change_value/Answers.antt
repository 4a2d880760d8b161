use Rattle.std.proofs.Common.{◌≡◌, ◌+◌, Some, sym, ap, ap₂, subst, pos, SFits, arith, rules, ◌∙◌}
use Rattle.std.specs.Prelude.{ℤ, if◌then◌else◌}
use Rattle.std.specs.Option.{option_or}
use Rattle.std.specs.Int.{w64, w128}
use Rattle.std.proofs.lemmas.Int.{to_z-of_z}
use Rattle.hd_base.specs.declared.range.TheConstants.{RANGE_END}
use Rattle.hd_lifted.specs.States.{same}
use Rattle.hd_lifted.specs.Effects.{value_by_change}
use Rattle.hd_judge.specs.Tables.{value_in}
use Rattle.hd_judge.specs.Effects.{new_value_in}
use Rattle.hd_base.specs.Numbers.{IsNear}
use Rattle.hd_judge.proofs.Changing.{value_changed, near_changed}
use Rattle.hd_judge.proofs.effect.change_value.Goals as goal

pub returns-clause-values : goal.returns-clause-values
returns-clause-values c = λ g.
    let v = value_in c.args.numbers.now in
    let e = c.args.effect.now in
    let fluent = c.in_ok-fluent.fluent in
    let old = new_value_in c.args.changes.now in
    let before = c.in-Some.old in
    let so_far = c.value_so_far-so_far.result in
    let value = c.value_by_change-value.result in
    let fits_before : SFits w64 before = search rules in
    let fits_so_far : SFits w128 so_far = search rules in
    let fits_amount : SFits w64 c.args.amount = search rules in
    let fits_value : SFits w128 value = search rules in
    let has : option_or (old fluent) (v fluent) ≡ Some so_far =
    ap (option_or (old fluent)) (sym c.get.ensures ∙ c.in-Some.is)
    ∙ (ap (λ (z : ℤ). option_or (old fluent) (Some z)) (sym (to_z-of_z w64 before fits_before)) ∙ c.value_so_far-so_far.ensures.value) in
    let gives : value_by_change e.change (Some so_far) (Some c.args.amount) ≡ Some value =
    ap₂ (λ (x y : ℤ). value_by_change e.change (Some x) (Some y)) (sym (to_z-of_z w128 so_far fits_so_far)) (sym (to_z-of_z w64 c.args.amount fits_amount))
    ∙ c.value_by_change-value.ensures.value in
    c.in_ok-set.ensures.value g
    ∙ (ap (λ (z : ℤ). if same fluent g then Some z else old g) (to_z-of_z w128 value fits_value)
    ∙ value_changed v c.args.objects.now e g fluent old so_far c.args.amount value c.requires.changes c.in_ok-fluent.ensures c.requires.amount has gives)

pub returns-clause-near : goal.returns-clause-near
returns-clause-near c = λ n big near.
    let so_far = c.value_so_far-so_far.result in
    let value = c.value_by_change-value.result in
    let fits_so_far : SFits w128 so_far = search rules in
    let fits_value : SFits w128 value = search rules in
    let old = new_value_in c.args.changes.now in
    near_changed n (n + RANGE_END) c.args.changes.now c.set.new.self c.in_ok-fluent.fluent value (omega arith) near
    (c.value_by_change-value.ensures.near n big
    (subst (IsNear n (pos 0)) (sym (to_z-of_z w128 so_far fits_so_far)) (c.value_so_far-so_far.ensures.near n big near)))
    (λ g. c.in_ok-set.ensures.value g ∙ ap (λ (z : ℤ). if same c.in_ok-fluent.fluent g then Some z else old g) (to_z-of_z w128 value fits_value))
    c.in_ok-set.ensures.cost
