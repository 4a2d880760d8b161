use Rattle.std.proofs.Common.{◌≡◌, ℕ, ◌*◌, ◌-◌, ◌≤◌, length}
use Rattle.hd_tables.specs.declared.chunks.TheConstants.{CHUNK, MOST_ITEMS}
use Rattle.hd_tables.specs.Chunks.{items_in, AreChunks}
use Rattle.hd_tables.proofs.chunks.add_chunks.Given as goal

-- the chunks added so far
abbrev pub invariant-loop-alloc : goal.invariant-loop-alloc
invariant-loop-alloc g l = record {
  items : items_in l.chunks.items ≡ items_in l.fn.chunks.items;
  chunks : (n : ℕ) → AreChunks n l.fn.chunks.items → AreChunks n l.chunks.items;
  kept : length l.fn.chunks.items ≤ length l.chunks.items;
  few : length l.fn.chunks.items * CHUNK ≤ MOST_ITEMS → length l.chunks.items * CHUNK ≤ MOST_ITEMS;
}

abbrev pub decreases-loop-alloc : goal.decreases-loop-alloc
decreases-loop-alloc g l = l.wanted - length l.chunks.items
