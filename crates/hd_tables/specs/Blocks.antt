-- Packed states of one task in blocks of bytes, and how contracts see them. (Our own.)
use Rattle.std.specs.Prelude.{◌≡◌, ℕ, ◌*◌, ◌<◌, ◌≤◌, List, Option, None, Some, length, vec_capacity}
use Rattle.hd_task.specs.declared.state.State.{State}
use Rattle.hd_pack.specs.declared.layout.Layout.{Layout}
use Rattle.hd_pack.specs.Packing.{unpacked}
use Rattle.hd_pack.specs.Splitting.{merged, AreWithin}
use Rattle.hd_tables.specs.declared.chunks.TheConstants.{CHUNK, MOST_ITEMS}
use Rattle.hd_tables.specs.Chunks.{ArePieces}
use Rattle.hd_tables.specs.declared.block.Block.{Block}
use Rattle.hd_tables.specs.declared.block.Pattern.{Pattern}
use Rattle.hd_tables.specs.Rows.{states_in, AreRows, IsWhole}
use Rattle.hd_tables.specs.Widths.{Widths, state_width}

-- how many atoms and fluents each state has, the states, and how many can be pushed without asking
-- for memory
pub record BlocksView : Type 0 where
  pub widths : Widths
  pub states : List State
  pub room : ℕ

-- the widths of a layout
abbrev pub widths_of : Layout → Widths
widths_of layout = record { atoms = layout.atoms; fluents = layout.fluents }

-- all bytes of a state, by those of its row: these are all, or it shares the others
abbrev pub bytes_of_row : Option Pattern → List ℕ → List ℕ
bytes_of_row None row = row
bytes_of_row (Some s) row = merged s.segments.items s.base.items row

-- the state of a row
abbrev pub row_state : Widths → Option Pattern → List ℕ → State
row_state w pattern row = unpacked w.atoms (bytes_of_row pattern row)

-- how many bytes a row has
abbrev pub row_width : Widths → Option Pattern → ℕ
row_width w None = state_width w
row_width w (Some s) = s.width

-- there are bytes for each segment
abbrev pub FitsPattern : Option Pattern → List ℕ → Type 0
FitsPattern None row = Unit {0}
FitsPattern (Some s) row = AreWithin s.segments.items s.base.items row

-- the bytes are a row of such a state
pub record IsStateRow (w : Widths) (pattern : Option Pattern) (row : List ℕ) : Type 0 where
  pub split : FitsPattern pattern row
  pub whole : IsWhole w.atoms w.fluents (bytes_of_row pattern row)

-- the states of a block
abbrev pub states_of : Widths → Block → List State
states_of w block = states_in (row_state w block.pattern) (row_width w block.pattern) block.bytes.items block.count

-- a block that can take states has nothing that they share, and the memory of a full one
pub record IsGrowing (w : Widths) (block : Block) : Type 0 where
  pub whole : block.pattern ≡ None
  pub large : CHUNK * state_width w ≤ vec_capacity block.bytes

-- a block is of rows of such states, and can take more until it is full
pub record IsBlock (w : Widths) (block : Block) : Type 0 where
  pub rows : AreRows (IsStateRow w block.pattern) (row_width w block.pattern) block.bytes.items block.count
  pub room : block.count < CHUNK → IsGrowing w block

-- blocks hold n states: each is full while states are left
pub record AreBlocks (w : Widths) (n : ℕ) (blocks : List Block) : Type 0 where
  pub pieces : ArePieces (states_of w) (IsBlock w) n blocks
  pub few : CHUNK * length blocks ≤ MOST_ITEMS
