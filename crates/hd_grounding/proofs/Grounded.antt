-- What follows from the parts of a grounding.
use Rattle.std.proofs.Common.{◌≡◌, ℕ, true, false, [], map, Contains, Some, slice_get, refl, sym, ap, ◌∙◌, subst}
use Rattle.std.specs.Prelude.{flat_map, option_map, unwrap_or, ℤ, pos}
use Rattle.std.proofs.lemmas.Bool.{false_from_ne_true}
use Rattle.std.proofs.lemmas.List.Elements.{All-contains, Contains-append_left, Contains-append_right}
use Rattle.std.proofs.lemmas.Option.{same_Some, slice_get-map, get_or_from_slice_get}
use Rattle.hd_base.proofs.Options.{some-unwrap_or}
use Rattle.hd_base.proofs.Places.{place_of, right_of, left_of}
use Rattle.hd_lifted.specs.declared.schema.Ground.{Ground}
use Rattle.hd_lifted.specs.declared.schema.Literal.{Literal}
use Rattle.hd_lifted.specs.declared.schema.Schema.{Schema}
use Rattle.hd_lifted.specs.declared.task.LiftedTask.{LiftedTask}
use Rattle.hd_lifted.specs.declared.instance.Instance.{Instance}
use Rattle.hd_lifted.specs.States.{ground_form_of, is_listed, first_value, initial_state}
use Rattle.hd_lifted.specs.Plans.{IsInstance}
use Rattle.hd_task.specs.declared.state.State.{State}
use Rattle.hd_task.specs.declared.action.Action.{Action}
use Rattle.hd_task.specs.declared.task.Task.{Task}
use Rattle.hd_task.specs.Conditions.{has_atom}
use Rattle.hd_task.specs.Expressions.{fluent_of}
use Rattle.hd_lifted.specs.Kept.{IsKept, keep, IsReachable, initially}
use Rattle.hd_lifted.specs.Met.{met_by_comparison, met_by_effect}
use Rattle.hd_lifted.specs.Numbering.{IsTaskAtom, IsTaskFluent}
use Rattle.hd_lifted.proofs.Passing.{Contains-slice_get}
use Rattle.hd_grounding.specs.Agreement.{Agree, IsNumbered, HasNumberedEffects}
use Rattle.hd_grounding.specs.Grounding.{HasFirstValue, IsActionOf, IsGrounding}

-- ---- kept instances

pub instance_kept : (t : LiftedTask) (i : Instance) → IsKept t i → IsInstance t i
instance_kept t i (keep j is statics equalities reached) = is

pub same_schema : (t : LiftedTask) (i : Instance) (is js : IsInstance t i) → is.schema ≡ js.schema
same_schema t i is js = same_Some is.schema js.schema (sym is.is_schema ∙ js.is_schema)

-- what a kept instance wants to be true is reachable
pub reachable_wanted :
    (t : LiftedTask) (i : Instance) → IsKept t i → (is : IsInstance t i) (l : Literal)
    → Contains is.schema.condition.literals l → l.positive ≡ true → IsReachable t (ground_form_of i.objects l.atom)
reachable_wanted t i (keep j js statics equalities reached) is l c wanted =
    reached l (subst (λ (a : Schema). Contains a.condition.literals l) (same_schema t j is js) c) wanted

module _ (t : LiftedTask) (u : Task) (made : IsGrounding t u) where
  -- ---- numbers

  pub reachable_numbered : (g : Ground) → IsReachable t g → Contains made.atoms g
  reachable_numbered g reached = (made.numbers_atoms.exactly g).0 (IsTaskAtom.reached reached)

  pub met_numbered : (i : Instance) (is : IsInstance t i) → IsKept t i → HasNumberedEffects made.fluents i.objects is.schema
  met_numbered i is kept g c =
      (made.numbers_fluents.exactly g).0
      (IsTaskFluent.met i is kept
      (Contains-append_right (flat_map (met_by_comparison i.objects) is.schema.condition.comparisons) (flat_map (met_by_effect i.objects) is.schema.effects) g c))

  pub condition_numbered : (i : Instance) (is : IsInstance t i) → IsKept t i → IsNumbered made.atoms made.fluents i.objects is.schema.condition
  condition_numbered i is kept = record {
    wanted = λ l c wanted. reachable_numbered (ground_form_of i.objects l.atom) (reachable_wanted t i kept is l c wanted);
    read = λ g c.
        (made.numbers_fluents.exactly g).0
        (IsTaskFluent.met i is kept
        (Contains-append_left (flat_map (met_by_comparison i.objects) is.schema.condition.comparisons) (flat_map (met_by_effect i.objects) is.schema.effects) g c));
  }

  pub goal_numbered : IsNumbered made.atoms made.fluents [] t.goal
  goal_numbered = record {
    wanted = λ l c _. (made.numbers_atoms.exactly (ground_form_of [] l.atom)).0 (IsTaskAtom.wanted l c refl);
    read = λ g c. (made.numbers_fluents.exactly g).0 (IsTaskFluent.wanted c);
  }

  -- ---- actions

  -- each kept instance has an action
  pub action_kept : (i : Instance) → IsKept t i → (k : ℕ) × (b : Action) × (slice_get u.actions k ≡ Some b) × IsActionOf t made.atoms made.fluents i b
  action_kept i kept =
      let place = place_of made.instances i ((made.numbers_instances.exactly i).0 kept) in
      let beside = right_of (IsActionOf t made.atoms made.fluents) made.instances u.actions place.0 i made.actions_are place.1 in
      (place.0, beside.0, beside.1, beside.2)

  -- each action is that of a kept instance
  pub kept_action : (k : ℕ) (b : Action) → slice_get u.actions k ≡ Some b → (i : Instance) × IsKept t i × IsActionOf t made.atoms made.fluents i b
  kept_action k b at =
      let beside = left_of (IsActionOf t made.atoms made.fluents) made.instances u.actions k b made.actions_are at in
      (beside.0, (made.numbers_instances.exactly beside.0).1 (Contains-slice_get made.instances k beside.0 beside.1), beside.2)

  -- ---- at first

  pub first_there : (g : Ground) → Contains made.fluents g → HasFirstValue t g
  first_there g c = All-contains (HasFirstValue t) made.fluents g made.have_values c

  abbrev first : Ground → ℤ
  first g = unwrap_or (first_value t.values g) (pos 0)

  -- the domain's and the task's states at first agree
  pub starts_agree : Agree made.atoms made.fluents (initial_state t) u.initial
  unfolding initial_state
  starts_agree = record {
    same_atoms = λ k g at.
        sym (ap (λ n. has_atom n k) made.initial_is
        ∙ get_or_from_slice_get (map (is_listed t.atoms) made.atoms) k (is_listed t.atoms g) false
        (slice_get-map (is_listed t.atoms) made.atoms k ∙ ap (option_map (is_listed t.atoms)) at));
    others = λ g none. false_from_ne_true (is_listed t.atoms g) (λ listed. none (reachable_numbered g (initially g listed)));
    same_values = λ k g at.
        some-unwrap_or (first_value t.values g) (pos 0) (first_there g (Contains-slice_get made.fluents k g at))
        ∙ ap Some
        (sym (ap (λ (n : State). fluent_of n.fluents k) made.initial_is
        ∙ get_or_from_slice_get (map first made.fluents) k (first g) (pos 0) (slice_get-map first made.fluents k ∙ ap (option_map first) at)));
  }
