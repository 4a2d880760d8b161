use Rattle.std.proofs.Common.{◌+◌, refl, sym, ap, ◌∙◌}
use Rattle.std.specs.List.{list_all}
use Rattle.hd_task.specs.Effects.{effect_stays, state_after}
use Rattle.hd_zobrist.specs.Hash.{state_hash}
use Rattle.hd_pack.specs.Leading.{led_by, test_of_led}
use Rattle.hd_pack.proofs.Steps.{applied_costless, applied_aside, led_beyond, led_within}
use Rattle.hd_pack.proofs.leading.test_effects.Goals as goal

pub returns-in_default : goal.returns-in_default
returns-in_default c = sym (ap (λ a. test_of_led (led_by c.args.cost a)) (applied_costless c.args.task.now c.args.state.now c.args.action.now c.requires c.in_default.ensures))

pub returns-in_default-total_cost : goal.returns-in_default-total_cost
returns-in_default-total_cost c =
    ap test_of_led (led_beyond c.args.task.now c.args.state.now c.args.action.now c.args.cost c.in-Some.step c.requires c.in-Some.ensures.0 c.in-Some.ensures.1 c.in_default-total_cost.ensures)

pub returns-then-effects_stay : goal.returns-then-effects_stay
returns-then-effects_stay c =
    let t = c.args.task.now in
    let s = c.args.state.now in
    let a = c.args.action.now in
    let after = state_after t s a in
    let total = c.args.cost + c.in-Some.step in
    let stay = ap (list_all (effect_stays s.fluents)) (sym c.as_slice.ensures) ∙ (sym c.effects_stay.ensures ∙ c.if-effects_stay.true) in
    ap test_of_led
    (led_within t s after a c.args.cost c.in-Some.step (state_hash after) total c.requires stay c.in-Some.ensures.0 c.in-Some.ensures.1 c.in-Some-total_cost.ensures.0 refl refl refl)

pub returns-else-effects_stay : goal.returns-else-effects_stay
returns-else-effects_stay c =
    let t = c.args.task.now in
    let s = c.args.state.now in
    let a = c.args.action.now in
    let goes = ap (list_all (effect_stays s.fluents)) (sym c.as_slice.ensures) ∙ (sym c.effects_stay.ensures ∙ c.if-effects_stay.false) in
    sym (ap (λ x. test_of_led (led_by c.args.cost x)) (applied_aside t s a c.requires goes))
