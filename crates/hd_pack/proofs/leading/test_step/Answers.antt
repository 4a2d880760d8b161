use Rattle.std.proofs.Common.{refl, sym, ap, ◌∙◌}
use Rattle.hd_pack.specs.Leading.{test_of_led}
use Rattle.hd_pack.proofs.Steps.{applied_no, applied_departs, applied_by_number, led_at}
use Rattle.hd_pack.proofs.leading.test_step.Goals as goal

pub returns-in-No : goal.returns-in-No
returns-in-No c =
    ap test_of_led
    (led_at c.args.task.now c.args.state.now c.args.cost c.args.action.0 _ _
    (sym (applied_no c.args.task.now c.args.state.now c.index-as_slice-action.result (sym c.in-No.ensures))
    ∙ applied_by_number c.args.task.now c.args.state.now _ c.args.action.0 _ c.as_slice.ensures c.requires c.index-as_slice-action.is)
    refl)

pub returns-in-Departs : goal.returns-in-Departs
returns-in-Departs c =
    ap test_of_led
    (led_at c.args.task.now c.args.state.now c.args.cost c.args.action.0 _ _
    (sym (applied_departs c.args.task.now c.args.state.now c.index-as_slice-action.result (sym c.in-Departs.ensures))
    ∙ applied_by_number c.args.task.now c.args.state.now _ c.args.action.0 _ c.as_slice.ensures c.requires c.index-as_slice-action.is)
    refl)

pub returns-in-Yes : goal.returns-in-Yes
returns-in-Yes c =
    c.test_effects.ensures
    ∙ ap test_of_led
    (led_at c.args.task.now c.args.state.now c.args.cost c.args.action.0 _ _
    (applied_by_number c.args.task.now c.args.state.now _ c.args.action.0 _ c.as_slice.ensures c.requires c.index-as_slice-action.is)
    refl)
