-- A small task on which the definitions are computed.
use Rattle.std.specs.Prelude.{ℕ, Bool, true, false, List, [], ◌∷◌, ◌++◌, codes, refl}
use Rattle.hd_task.specs.declared.state.State.{State}
use Rattle.hd_task.specs.declared.form.GroundForm.{GroundForm}
use Rattle.hd_task.specs.declared.condition.Literal.{Literal}
use Rattle.hd_task.specs.declared.condition.Condition.{Condition}
use Rattle.hd_task.specs.declared.action.Action.{Action}
use Rattle.hd_task.specs.declared.plan.Kid.{Kid}
use Rattle.hd_task.specs.declared.task.Task.{Task}

-- ---- parts

-- a form without objects
abbrev form : ℕ → GroundForm
form n = record { symbol = n; objects = [] }

abbrev true_atom : ℕ → Literal
true_atom i = record { atom = i; positive = true }

abbrev false_atom : ℕ → Literal
false_atom i = record { atom = i; positive = false }

-- a condition on one atom
abbrev when : Literal → Condition
when literal = record { literals = literal ∷ []; comparisons = []; never = false }

-- an action that makes one atom true
abbrev setting : ℕ → Condition → ℕ → Action
setting n condition atom =
    record { form = form n; condition = condition; deletes = []; adds = atom ∷ []; effects = []; costs = [] }

-- the state of these atoms, without fluents
abbrev atom_state : List Bool → State
atom_state atoms = record { atoms = atoms; fluents = [] }

-- ---- two actions: `set-a` makes a true where it is false, `set-b` needs a and makes b true; the
-- goal is b

abbrev pub two_actions : Task
two_actions = record {
  names = record {
    schemas = codes "set-a" ∷ codes "set-b" ∷ [];
    predicates = codes "a" ∷ codes "b" ∷ [];
    functions = [];
    objects = [];
  };
  atoms = form 0 ∷ form 1 ∷ [];
  fluents = [];
  initial = atom_state (false ∷ false ∷ []);
  actions = setting 0 (when (false_atom 0)) 0 ∷ setting 1 (when (true_atom 0)) 1 ∷ [];
  goal = when (true_atom 1);
  metric = false;
  limits = refl;
  named = refl;
  start_atoms = refl;
  start_fluents = refl;
  start_in_range = refl;
  actions_fit = refl;
  goal_fits = refl;
  costs_fit = refl;
  constant_costs_fit = refl;
}

-- its state where both are true
abbrev pub a_and_b : State
a_and_b = atom_state (true ∷ true ∷ [])

-- its three expansions, after which each generated plan is expanded or dominated
abbrev pub three_expansions : List (List ℕ)
three_expansions = [] ∷ (0 ∷ []) ∷ (0 ∷ 1 ∷ []) ∷ []

-- what they generate: themselves, and one plan more, by `set-b` once more
abbrev pub their_plans : List (List ℕ)
their_plans = three_expansions ++ (0 ∷ 1 ∷ 1 ∷ []) ∷ []

-- a pair that names a plan
abbrev pub kid : ℕ → ℕ → Kid
kid parent action = record { parent = parent; action = action }
