use Rattle.std.proofs.Common.{◌≡◌, Some, take}
use Rattle.hd_tables.specs.Rows.{states_in, AreRows}
use Rattle.hd_tables.specs.Blocks.{row_state, states_of, widths_of, IsStateRow}
use Rattle.hd_tables.proofs.thin.own_bytes.Given as goal

-- the states so far share the bytes
abbrev pub invariant-loop-place : goal.invariant-loop-place
invariant-loop-place l =
    let w = widths_of l.layout in
    record {
      rows : AreRows (IsStateRow w (Some l.pattern)) l.pattern.width l.bytes.items l.place;
      states : states_in (row_state w (Some l.pattern)) l.pattern.width l.bytes.items l.place ≡ take l.place (states_of w l.block);
    }
