use Rattle.std.proofs.Common.{inr, refl, sym, ap, ◌∙◌}
use Rattle.hd_pack.specs.Leading.{led_by}
use Rattle.hd_pack.proofs.Steps.{applied_costless, applied_aside, led_beyond, led_within}
use Rattle.hd_tables.proofs.draft.Draft.take_effect.Goals as goal

pub returns-in_default : goal.returns-in_default
returns-in_default c = inr (ap (led_by c.args.cost) (applied_costless c.args.task.now c.args.before.now c.args.action.now c.requires.holds c.in_default.ensures))

pub returns-in_default-total_cost : goal.returns-in_default-total_cost
returns-in_default-total_cost c =
    inr (sym (led_beyond c.args.task.now c.args.before.now c.args.action.now c.args.cost c.in-Some.step c.requires.holds c.in-Some.ensures.0 c.in-Some.ensures.1 c.in_default-total_cost.ensures))

pub returns-then-write_effects : goal.returns-then-write_effects
returns-then-write_effects c =
    sym (led_within c.args.task.now c.args.before.now _ c.args.action.now c.args.cost c.in-Some.step _ _ c.requires.holds
    (sym c.write_effects.ensures.stays ∙ c.if-write_effects.true) c.in-Some.ensures.0 c.in-Some.ensures.1
    c.in-Some-total_cost.ensures.0 c.in-Some-total_cost.ensures.1
    (c.write_effects.ensures.written c.if-write_effects.true) refl)

pub returns-else-write_effects : goal.returns-else-write_effects
returns-else-write_effects c =
    inr (ap (led_by c.args.cost) (applied_aside c.args.task.now c.args.before.now c.args.action.now c.requires.holds (sym c.write_effects.ensures.stays ∙ c.if-write_effects.false)))
