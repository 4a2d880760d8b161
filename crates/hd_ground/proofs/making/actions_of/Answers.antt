use Rattle.std.proofs.Common.{refl, sym, subst, ◌+◌}
use Rattle.std.specs.Prelude.{List, take}
use Rattle.std.specs.List.{AllZip}
use Rattle.hd_task.specs.declared.action.Action.{Action}
use Rattle.hd_grounding.specs.Grounding.{IsActionOf}
use Rattle.hd_ground.proofs.Acting.{schema_there, are_more}
use Rattle.hd_ground.proofs.making.actions_of.Goals as goal

-- src/making.rt:113:22
pub action_of-requires : goal.action_of-requires
action_of-requires c =
    schema_there c.args.lookups.now c.args.instances.now c.loop-instance.instance-index c.instance-item.result c.requires c.loop-instance-test.true
    c.instance-item.is

-- src/making.rt:112:5
pub loop-instance-preserved : goal.loop-instance-preserved
loop-instance-preserved c =
    let k = c.loop-instance.instance-index in
    subst (λ (bs : List Action). AllZip (IsActionOf c.args.lookups.now c.args.atoms.now c.args.fluents.now) (take (k + 1) c.args.instances.now) bs)
    (sym c.in_ok-push.ensures.items)
    (are_more c.args.lookups.now c.args.atoms.now c.args.fluents.now c.args.instances.now k (k + 1) c.instance-item.result c.loop-instance.actions.items
    c.in_ok-action.action refl c.loop-instance-test.true c.instance-item.is c.loop-instance.invariant c.in_ok-action.ensures)
