-- States that stand at given places of a list. (Our own.)
use Rattle.std.specs.Prelude.{ℕ, List, [], map, slice_index_or}
use Rattle.hd_task.specs.declared.state.State.{State}

-- the states at these places; where there is none, one without atoms and fluents
abbrev pub states_at : List State → List ℕ → List State
states_at states places = map (λ place. slice_index_or states place (record { atoms = []; fluents = [] })) places
