-- What actions watch: two atoms that the condition asks to be true, if it asks for any. (Our own.)
use Rattle.std.specs.Prelude.{◌≡◌, ℕ, ◌==◌, Bool, true, false, not, ◌&&◌, List, length, Option, Some, None, slice_get}
use Rattle.std.specs.List.{list_any, filter}
use Rattle.hd_task.specs.declared.state.State.{State}
use Rattle.hd_task.specs.declared.condition.Literal.{Literal}
use Rattle.hd_task.specs.declared.action.Action.{Action}
use Rattle.hd_task.specs.Conditions.{has_atom}
use Rattle.hd_task.specs.Effects.{numbers_below}
use Rattle.hd_successors.specs.declared.watching.WatchedAtoms.{WatchedAtoms}
use Rattle.hd_successors.specs.declared.watching.WatchedAtoms.TheVariants.{Always, Atoms}

-- a literal asks that this atom is true
abbrev pub is_for : ℕ → Literal → Bool
is_for i l = l.positive && (l.atom == i)

-- what may be watched where these literals are asked for: two atoms, each of which one of them asks
-- to be true, or nothing where none asks for a true atom
abbrev pub asks_for : List Literal → WatchedAtoms → Bool
asks_for ls Always = not (list_any (λ (l : Literal). l.positive) ls)
asks_for ls (Atoms i j) = list_any (is_for i) ls && list_any (is_for j) ls

-- each action watches what it may
pub record IsWatchedBy (actions : List Action) (watched : List WatchedAtoms) : Type 0 where
  -- there is a watch for each action
  pub each_action : length watched ≡ length actions
  -- it is one that the action's literals ask for
  pub asked_for : (n : ℕ) (a : Action) (w : WatchedAtoms)
      → slice_get actions n ≡ Some a → slice_get watched n ≡ Some w → asks_for a.condition.literals w ≡ true

-- what is watched is so in a state
abbrev pub is_seen : State → Option WatchedAtoms → Bool
is_seen s None = false
is_seen s (Some Always) = true
is_seen s (Some (Atoms i j)) = has_atom s i && has_atom s j

-- an action is a candidate in a state where what it watches is so
abbrev pub is_candidate : List WatchedAtoms → State → ℕ → Bool
is_candidate watched s n = is_seen s (slice_get watched n)

-- the candidates in a state, in the order of the actions
unfoldable pub candidates : List WatchedAtoms → State → List ℕ
candidates watched s = filter (is_candidate watched s) (numbers_below (length watched))
