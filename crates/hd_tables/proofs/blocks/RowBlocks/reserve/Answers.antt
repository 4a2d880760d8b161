use Rattle.std.proofs.Common.{◌+◌, ap, arith}
use Rattle.std.proofs.lemmas.Grind.{div_ceil_times}
use Rattle.hd_tables.specs.declared.chunks.TheConstants.{CHUNK}
use Rattle.hd_tables.proofs.Filling.{chunks_enough}
use Rattle.hd_tables.specs.Blocks.{BlocksView, states_of, widths_of, IsBlock}
use Rattle.hd_tables.proofs.blocks.RowBlocks.reserve.Goals as goal

pub overflow_sub-self-inside : goal.overflow_sub-self-inside
overflow_sub-self-inside c =
    let s = c.self.inside in
    let w = widths_of s.layout in
    let few = c.self.invariant.few in
    let enough = chunks_enough (states_of w) (IsBlock w) s.blocks.items s.len c.self.invariant.pieces in
    omega (arith, few, enough)

pub add_blocks-requires : goal.add_blocks-requires
add_blocks-requires c =
    let s = c.self.inside in
    let w = widths_of s.layout in
    let few = c.self.invariant.few in
    let enough = chunks_enough (states_of w) (IsBlock w) s.blocks.items s.len c.self.invariant.pieces in
    let up = (div_ceil_times (s.len + c.args.count) CHUNK (omega arith)).1 in
    let is = c.div_ceil-wanted.ensures in
    let fits = c.if-count-self.false in
    omega (arith, few, enough, up, is, fits)

pub returns-clause-enough : goal.returns-clause-enough
returns-clause-enough c = λ fit.
    let s = c.self.inside in
    let w = widths_of s.layout in
    let room = ap (λ (v : BlocksView). v.room) c.self.view_is in
    let enough = chunks_enough (states_of w) (IsBlock w) s.blocks.items s.len c.self.invariant.pieces in
    let up = (div_ceil_times (s.len + c.args.count) CHUNK (omega arith)).1 in
    let is = c.div_ceil-wanted.ensures in
    let same = ap (λ (v : BlocksView). v.room) c.thin_next.ensures in
    c.add_blocks.ensures.enough (omega (arith, fit, room, same, enough, up, is))
