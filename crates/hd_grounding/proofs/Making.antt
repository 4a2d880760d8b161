-- A task of the parts that were grounded is the grounding of the lifted task.
use Rattle.std.proofs.Common.{List, [], map, sym, subst}
use Rattle.std.specs.Prelude.{is_some}
use Rattle.std.specs.List.{AllZip}
use Rattle.std.specs.Prelude.{get_or}
use Rattle.std.proofs.lemmas.List.Elements.{Contains-get_or}
use Rattle.hd_lifted.specs.declared.schema.Ground.{Ground}
use Rattle.hd_lifted.specs.declared.task.LiftedTask.{LiftedTask}
use Rattle.hd_lifted.specs.declared.instance.Instance.{Instance}
use Rattle.hd_task.specs.declared.action.Action.{Action}
use Rattle.hd_task.specs.declared.task.Task.{Task}
use Rattle.hd_task.specs.Parts.{HasParts}
use Rattle.hd_grounding.specs.Images.{condition_of}
use Rattle.hd_grounding.specs.Grounding.{names_in, form_of, start_in, IsActionOf, IsGrounding}
use Rattle.hd_grounding.specs.Counted.{AreCounted, AreFaultless}
use Rattle.hd_grounding.proofs.Starting.{first_there}

pub IsGrounding-from_parts : (t : LiftedTask) (instances : List Instance) (atoms fluents : List Ground) (actions : List Action) (u : Task)
    → AreCounted t instances atoms fluents → AreFaultless t instances → AllZip (IsActionOf t atoms fluents) instances actions
    → HasParts (names_in t) (map form_of atoms) (map form_of fluents) (start_in t atoms fluents) actions (condition_of atoms fluents [] t.goal)
    (is_some t.metric) u
    → IsGrounding t u
IsGrounding-from_parts t instances atoms fluents actions u counted faultless are parts = record {
  instances = instances;
  atoms = atoms;
  fluents = fluents;
  numbers_instances = counted.numbers_instances;
  numbers_atoms = counted.numbers_atoms;
  numbers_fluents = counted.numbers_fluents;
  have_values = λ i d lt. first_there t instances atoms fluents counted faultless (get_or fluents i d) (Contains-get_or fluents i d lt);
  names_are = parts.names_are;
  atoms_are = parts.atoms_are;
  fluents_are = parts.fluents_are;
  initial_is = parts.initial_is;
  actions_are = subst (AllZip (IsActionOf t atoms fluents) instances) (sym parts.actions_are) are;
  goal_is = parts.goal_is;
  metric_is = parts.metric_is;
}
