use Rattle.std.proofs.Common.{◌<◌, None, length, take_all, ap, ◌∙◌, arith}
use Rattle.hd_tables.specs.Blocks.{row_state, row_width, states_of, widths_of}
use Rattle.hd_tables.proofs.Packed.{rows_count}
use Rattle.hd_tables.proofs.BlockRows.{row_reach}
use Rattle.hd_tables.proofs.thin.thinned.Goals as goal

pub row_at-requires : goal.row_at-requires
row_at-requires c =
    let b = c.args.block.now in
    let few = c.in_ok-bytes.ensures.few in
    let other = c.if-count-block.false in
    let lt : c.in_ok-bytes.count < b.count = omega (arith, few, other) in
    let reach = row_reach (widths_of c.args.layout) b c.in_ok-bytes.count c.bytes-width.result None c.requires.block lt c.requires.whole c.bytes-width.ensures in
    let same = ap length c.as_slice-rows.ensures.value in
    omega (arith, reach, same)

pub returns-then-count-block-clause-states : goal.returns-then-count-block-clause-states
returns-then-count-block-clause-states c =
    let w = widths_of c.args.layout in
    let b = c.args.block.now in
    let count = rows_count (row_state w b.pattern) (row_width w b.pattern) b.bytes.items b.count in
    let all = c.if-count-block.true in
    c.in_ok-bytes.ensures.states ∙ take_all c.in_ok-bytes.count (states_of w b) (omega (arith, count, all))
