use Rattle.std.proofs.Common.{not, List, Some, is_some, refl, sym, ap, ap₂, subst, ◌∙◌, pos, SFits, rules}
use Rattle.std.specs.Prelude.{ℤ, find, if◌then◌else◌, Ok, Err}
use Rattle.std.specs.List.{list_all}
use Rattle.std.specs.Int.{w128}
use Rattle.std.proofs.lemmas.Int.{to_z-of_z}
use Rattle.hd_lifted.specs.declared.schema.NumericEffect.{NumericEffect}
use Rattle.hd_lifted.specs.declared.task.LiftedTask.{LiftedTask}
use Rattle.hd_lifted.specs.States.{ground_form_of}
use Rattle.hd_judge.specs.Tables.{reached_in}
use Rattle.hd_judge.specs.Effects.{change_fits}
use Rattle.hd_judge.specs.EffectReasons.{JudgesCost}
use Rattle.hd_judge.proofs.Effecting.{leaving, value_is, all_stay, all_fit}
use Rattle.hd_judge.proofs.Paying.{step_is, reason_by, cost_stays}
use Rattle.hd_judge.proofs.effect.judge_changes.Goals as goal

pub returns-in-Some-clause-refuses : goal.returns-in-Some-clause-refuses
returns-in-Some-clause-refuses c =
    let v = (reached_in c.args.place.now).state.values in
    let objects = c.args.objects.now in
    let a = c.args.schema.now in
    let changes = c.args.changes.now in
    let found = rw c.in-Some.is at c.in_ok-new.ensures in (
      c.requires.stay,
      found.0 ∙ c.as_slice-effects.ensures,
      sym (leaving v a objects changes c.requires.changes)
          ∙ (ap (λ (es : List NumericEffect). find (λ e. not (change_fits changes objects e)) es) (sym c.as_slice-effects.ensures) ∙ found.1),
      value_is v a objects changes (ground_form_of objects c.in-Some.new.effect.now.fluent) c.in-Some.new.value c.requires.changes found.2,
    )

pub returns-in-Ok-clause-gives : goal.returns-in-Ok-clause-gives
returns-in-Ok-clause-gives c =
    let r = reached_in c.args.place.now in
    let t = c.args.lookups.now in
    let objects = c.args.objects.now in
    let a = c.args.schema.now in
    let changes = c.args.changes.now in
    let fit = ap (λ (es : List NumericEffect). list_all (change_fits changes objects) es) (sym c.as_slice-effects.ensures) ∙ (rw c.in_default.is at c.in_ok-new.ensures) in
    let stay = all_stay r.state.values a objects changes c.requires.stay c.requires.changes fit in
    let fits : SFits w128 c.step_cost-step.result = search rules in
    let sum_fits : SFits w128 changes.cost = search rules in
    let told = subst (λ (z : ℤ). JudgesCost c.args.place.now.cost z c.as_slice-effects.result.now (Ok c.in-Ok.cost)) (to_z-of_z w128 c.step_cost-step.result fits) c.in-Ok.ensures in
    let step = step_is t r.state.values a objects changes.cost c.requires.changes.cost
    ∙ ap Some
    (sym (c.step_cost-step.ensures
    ∙ ap₂ (λ (u : LiftedTask) (z : ℤ). if is_some u.metric then z else pos 1) c.task.ensures (to_z-of_z w128 changes.cost sum_fits))) in
    let stays = cost_stays t r a objects c.args.place.now.cost c.step_cost-step.result c.as_slice-effects.result.now c.in-Ok.cost stay step refl told in
    record { stay = stays.0; are = c.requires.changes; fit = all_fit r.state.values objects a.effects changes c.requires.changes fit; total = stays.1 }

pub returns-in-Err-clause-refuses : goal.returns-in-Err-clause-refuses
returns-in-Err-clause-refuses c =
    let r = reached_in c.args.place.now in
    let t = c.args.lookups.now in
    let objects = c.args.objects.now in
    let a = c.args.schema.now in
    let changes = c.args.changes.now in
    let fit = ap (λ (es : List NumericEffect). list_all (change_fits changes objects) es) (sym c.as_slice-effects.ensures) ∙ (rw c.in_default.is at c.in_ok-new.ensures) in
    let stay = all_stay r.state.values a objects changes c.requires.stay c.requires.changes fit in
    let fits : SFits w128 c.step_cost-step.result = search rules in
    let sum_fits : SFits w128 changes.cost = search rules in
    let told = subst (λ (z : ℤ). JudgesCost c.args.place.now.cost z c.as_slice-effects.result.now (Err c.in-Err.reason)) (to_z-of_z w128 c.step_cost-step.result fits) c.in-Err.ensures in
    let step = step_is t r.state.values a objects changes.cost c.requires.changes.cost
    ∙ ap Some
    (sym (c.step_cost-step.ensures
    ∙ ap₂ (λ (u : LiftedTask) (z : ℤ). if is_some u.metric then z else pos 1) c.task.ensures (to_z-of_z w128 changes.cost sum_fits))) in
    reason_by t r a objects c.args.place.now.cost c.step_cost-step.result c.as_slice-effects.result.now c.in-Err.reason stay step refl c.as_slice-effects.ensures told
