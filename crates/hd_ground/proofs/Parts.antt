-- A task whose parts are what was grounded.
use Rattle.std.proofs.Common.{◌≡◌, ◌∙◌, Bool, true, List, [], map, sym, subst}
use Rattle.std.specs.Prelude.{is_some}
use Rattle.hd_lifted.specs.declared.schema.Ground.{Ground}
use Rattle.hd_lifted.specs.declared.task.LiftedTask.{LiftedTask}
use Rattle.hd_task.specs.declared.form.GroundForm.{GroundForm}
use Rattle.hd_task.specs.declared.form.Names.{Names}
use Rattle.hd_task.specs.declared.state.State.{State}
use Rattle.hd_task.specs.declared.action.Action.{Action}
use Rattle.hd_task.specs.declared.condition.Condition.{Condition}
use Rattle.hd_task.specs.declared.task.Task.{Task}
use Rattle.hd_task.specs.Parts.{HasParts}
use Rattle.hd_task.specs.WellFormed.{parts_fit}
use Rattle.hd_grounding.specs.Images.{condition_of}
use Rattle.hd_grounding.specs.Grounding.{names_in, form_of, start_in}
use Rattle.hd_grounding.specs.Fitting.{grounded_parts_fit, HasGroundedParts}

-- parts are those of a grounding
pub record AreGrounded (t : LiftedTask) (atoms fluents : List Ground) (names : Names) (gs hs : List GroundForm) (initial : State) (goal : Condition) (metric : Bool) : Type 0 where
  pub names_are : names ≡ names_in t
  pub atoms_are : gs ≡ map form_of atoms
  pub fluents_are : hs ≡ map form_of fluents
  pub initial_is : initial ≡ start_in t atoms fluents
  pub goal_is : goal ≡ condition_of atoms fluents [] t.goal
  pub metric_is : metric ≡ is_some t.metric

module _ (t : LiftedTask) (atoms fluents : List Ground) (names : Names) (gs hs : List GroundForm) (initial : State) (goal : Condition) (metric : Bool) (actions : List Action) (are : AreGrounded t atoms fluents names gs hs initial goal metric) where
  pub fit_there : grounded_parts_fit t atoms fluents actions ≡ true → parts_fit names gs hs initial actions goal metric ≡ true
  fit_there fit =
      let is = start_in t atoms fluents in
      let g = condition_of atoms fluents [] t.goal in
      let m = is_some t.metric in
      subst (λ n. parts_fit n gs hs initial actions goal metric ≡ true) (sym are.names_are)
      (subst (λ x. parts_fit (names_in t) x hs initial actions goal metric ≡ true) (sym are.atoms_are)
      (subst (λ x. parts_fit (names_in t) (map form_of atoms) x initial actions goal metric ≡ true) (sym are.fluents_are)
      (subst (λ x. parts_fit (names_in t) (map form_of atoms) (map form_of fluents) x actions goal metric ≡ true) (sym are.initial_is)
      (subst (λ x. parts_fit (names_in t) (map form_of atoms) (map form_of fluents) is actions x metric ≡ true) (sym are.goal_is)
      (subst (λ x. parts_fit (names_in t) (map form_of atoms) (map form_of fluents) is actions g x ≡ true) (sym are.metric_is) fit)))))

  pub parts_there : (u : Task) → HasParts names gs hs initial actions goal metric u → HasGroundedParts t atoms fluents actions u
  parts_there u parts = record {
    names_are = parts.names_are ∙ are.names_are;
    atoms_are = parts.atoms_are ∙ are.atoms_are;
    fluents_are = parts.fluents_are ∙ are.fluents_are;
    initial_is = parts.initial_is ∙ are.initial_is;
    actions_are = parts.actions_are;
    goal_is = parts.goal_is ∙ are.goal_is;
    metric_is = parts.metric_is ∙ are.metric_is;
  }
