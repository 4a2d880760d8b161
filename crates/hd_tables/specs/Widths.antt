-- How much the states of a task take. (Our own.)
use Rattle.std.specs.Prelude.{◌≡◌, ℕ, ◌+◌, ◌*◌, length}
use Rattle.hd_task.specs.declared.state.State.{State}
use Rattle.hd_pack.specs.Packing.{bytes_for}

-- how many atoms and fluents each of some states has
pub record Widths : Type 0 where
  pub atoms : ℕ
  pub fluents : ℕ

-- how many bytes such a state takes
abbrev pub state_width : Widths → ℕ
state_width w = bytes_for w.atoms + 8 * w.fluents

-- a state has as many atoms and fluents
pub record HasWidths (w : Widths) (s : State) : Type 0 where
  pub atoms : length s.atoms ≡ w.atoms
  pub fluents : length s.fluents ≡ w.fluents
