use Rattle.std.proofs.Common.{arith}
use Rattle.hd_tables.proofs.Filling.{chunks_enough}
use Rattle.hd_tables.specs.Blocks.{states_of, widths_of, IsBlock}
use Rattle.hd_tables.proofs.blocks.RowBlocks.room.Goals as goal

pub overflow_sub-result : goal.overflow_sub-result
overflow_sub-result c =
    let s = c.self.inside in
    let w = widths_of s.layout in
    let enough = chunks_enough (states_of w) (IsBlock w) s.blocks.items s.len c.self.invariant.pieces in
    omega (arith, enough)
