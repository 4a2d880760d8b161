use Rattle.std.proofs.Common.{◌∙◌, ap, subst}
use Rattle.std.specs.Prelude.{is_some}
use Rattle.std.specs.List.{AllZip}
use Rattle.hd_lifted.specs.declared.task.LiftedTask.{LiftedTask}
use Rattle.hd_grounding.specs.Grounding.{IsActionOf}
use Rattle.hd_grounding.proofs.Fitting.{all_fit}
use Rattle.hd_grounding.proofs.Making.{IsGrounding-from_parts}
use Rattle.hd_ground.proofs.Parts.{fit_there, parts_there}
use Rattle.hd_ground.proofs.making.task_of.Goals as goal

-- src/making.rt:160:27
pub task_with-requires : goal.task_with-requires
task_with-requires c =
    let t = c.args.lookups.now in
    let counted = c.args.counted.now in
    let printed = c.in_ok-printed.printed in
    let ends = c.in-Ok.ends in
    fit_there t counted.atoms counted.fluents printed.names printed.atoms printed.fluents ends.initial ends.goal c.is_some-metric.result
    c.in-Ok-actions_of.actions
    (record {
      names_are = c.in_ok-printed.ensures.names;
      atoms_are = c.in_ok-printed.ensures.atoms;
      fluents_are = c.in_ok-printed.ensures.fluents;
      initial_is = c.in-Ok.ensures.initial;
      goal_is = c.in-Ok.ensures.goal;
      metric_is = c.is_some-metric.ensures ∙ ap (λ (u : LiftedTask). is_some u.metric) c.task.ensures;
    })
    (all_fit t counted.instances counted.atoms counted.fluents c.in-Ok-actions_of.actions c.requires.checked c.requires.counted c.requires.faultless
    (subst (λ is. AllZip (IsActionOf t counted.atoms counted.fluents) is c.in-Ok-actions_of.actions) c.as_slice.ensures c.in-Ok-actions_of.ensures))

-- src/making.rt:142:1
pub returns-in-Ok-actions_of : goal.returns-in-Ok-actions_of
returns-in-Ok-actions_of c =
    let t = c.args.lookups.now in
    let counted = c.args.counted.now in
    let printed = c.in_ok-printed.printed in
    let ends = c.in-Ok.ends in
    IsGrounding-from_parts t counted.instances counted.atoms counted.fluents c.in-Ok-actions_of.actions c.task_with.result
    c.requires.counted c.requires.faultless
    (subst (λ is. AllZip (IsActionOf t counted.atoms counted.fluents) is c.in-Ok-actions_of.actions) c.as_slice.ensures c.in-Ok-actions_of.ensures)
    (parts_there t counted.atoms counted.fluents printed.names printed.atoms printed.fluents ends.initial ends.goal c.is_some-metric.result
    c.in-Ok-actions_of.actions
    (record {
      names_are = c.in_ok-printed.ensures.names;
      atoms_are = c.in_ok-printed.ensures.atoms;
      fluents_are = c.in_ok-printed.ensures.fluents;
      initial_is = c.in-Ok.ensures.initial;
      goal_is = c.in-Ok.ensures.goal;
      metric_is = c.is_some-metric.ensures ∙ ap (λ (u : LiftedTask). is_some u.metric) c.task.ensures;
    })
    c.task_with.result c.task_with.ensures)
