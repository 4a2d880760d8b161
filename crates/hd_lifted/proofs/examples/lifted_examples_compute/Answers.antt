use Rattle.std.proofs.Common.{refl, ◌≡◌, ℕ, [], ◌∷◌, Some, pos}
use Rattle.std.specs.Prelude.{codes, slice_get}
use Rattle.std.proofs.lemmas.List.Elements.{All-from_recursion}
use Rattle.hd_lifted.specs.declared.task.Object.{Object}
use Rattle.hd_lifted.specs.Types.{reflexive}
use Rattle.hd_lifted.specs.Objects.{IsOfType}
use Rattle.hd_lifted.specs.States.{initial_state}
use Rattle.hd_lifted.specs.Conditions.{holds, condition_departs}
use Rattle.hd_lifted.specs.Effects.{state_after, step_cost, effects_stay}
use Rattle.hd_lifted.specs.Steps.{step, start}
use Rattle.hd_lifted.specs.Plans.{IsInstance, step_by}
use Rattle.hd_lifted.specs.Departures.{instance_departs}
use Rattle.hd_lifted.specs.Example.{object, journey, go, a_to_b, b_to_c}
use Rattle.hd_lifted.proofs.examples.lifted_examples_compute.Goals as goal

-- a place is of its own type
of_own_type : (o : ℕ) (d : Object) → slice_get journey.objects o ≡ Some d → IsOfType journey o d.of
of_own_type o d e = record { declared = d; is_declared = e; below = reflexive d.of }

-- the two steps of the journey
first_step : IsInstance journey a_to_b
first_step = record {
  schema = go;
  is_schema = refl;
  typed = (of_own_type 0 (object (codes "a") 1) refl, (of_own_type 1 (object (codes "b") 1) refl, tt));
  compatible = refl;
}

second_step : IsInstance journey b_to_c
second_step = record {
  schema = go;
  is_schema = refl;
  typed = (of_own_type 1 (object (codes "b") 1) refl, (of_own_type 2 (object (codes "c") 1) refl, tt));
  compatible = refl;
}

pub returns : goal.returns
unfolding initial_state holds condition_departs state_after step_cost effects_stay step start step_by instance_departs
returns c = record {
  arrives = record {
    valid = record {
      instances = All-from_recursion (IsInstance journey) (a_to_b ∷ b_to_c ∷ []) (first_step, (second_step, tt));
      end = record {
        state = state_after (state_after (initial_state journey) go (0 ∷ 1 ∷ [])) go (1 ∷ 2 ∷ []);
        cost = Some (pos 9);
      };
      executes = refl;
      meets_goal = refl;
    };
    costs = refl;
  };
  adds_last = refl;
  swaps_x = refl;
  swaps_y = refl;
  adds_up = refl;
  misses = refl;
  departs = refl;
  reaches_end = refl;
}
