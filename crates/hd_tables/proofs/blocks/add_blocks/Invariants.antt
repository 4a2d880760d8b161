use Rattle.std.proofs.Common.{◌≡◌, ℕ, ◌*◌, ◌-◌, ◌≤◌, length}
use Rattle.std.specs.Prelude.{flat_map}
use Rattle.hd_tables.specs.declared.chunks.TheConstants.{CHUNK, MOST_ITEMS}
use Rattle.hd_tables.specs.Chunks.{ArePieces}
use Rattle.hd_tables.specs.Blocks.{states_of, widths_of, IsBlock}
use Rattle.hd_tables.proofs.blocks.add_blocks.Given as goal

-- the blocks added so far
abbrev pub invariant-loop-alloc : goal.invariant-loop-alloc
invariant-loop-alloc l =
    let w = widths_of l.layout in
    record {
      states : flat_map (states_of w) l.blocks.items ≡ flat_map (states_of w) l.fn.blocks.items;
      pieces : (n : ℕ) → ArePieces (states_of w) (IsBlock w) n l.fn.blocks.items → ArePieces (states_of w) (IsBlock w) n l.blocks.items;
      kept : length l.fn.blocks.items ≤ length l.blocks.items;
      few : CHUNK * length l.fn.blocks.items ≤ MOST_ITEMS → CHUNK * length l.blocks.items ≤ MOST_ITEMS;
    }

abbrev pub decreases-loop-alloc : goal.decreases-loop-alloc
decreases-loop-alloc l = l.wanted - length l.blocks.items
