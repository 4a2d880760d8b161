use Rattle.std.proofs.Common.{ℕ, ◌-◌, ◌*◌, List, length-set, ap, ap₂, ◌∙◌, arith}
use Rattle.hd_task.specs.declared.state.State.{State}
use Rattle.hd_tables.specs.declared.chunks.TheConstants.{CHUNK}
use Rattle.hd_tables.specs.Blocks.{BlocksView, states_of, widths_of, IsBlock}
use Rattle.hd_tables.proofs.Filling.{chunks_enough}
use Rattle.hd_tables.proofs.BlockRows.{block_at, blocks_replaced, flat_replaced}
use Rattle.hd_tables.proofs.blocks.RowBlocks.thin_next.Goals as goal

pub index_mut-block-requires : goal.index_mut-block-requires
index_mut-block-requires c =
    let s = c.self.inside in
    let w = widths_of s.layout in
    let enough = chunks_enough (states_of w) (IsBlock w) s.blocks.items s.len c.self.invariant.pieces in
    let full = c.if-self.true in
    let count = s.blocks.ok.0 in
    omega (arith, enough, full, count)

pub thin-requires : goal.thin-requires
thin-requires c =
    let s = c.self.inside in
    let w = widths_of s.layout in
    let enough = chunks_enough (states_of w) (IsBlock w) s.blocks.items s.len c.self.invariant.pieces in
    let full = c.if-self.true in
    block_at w s.blocks.items s.len s.tried c.index_mut-block.result.now c.self.invariant.pieces (omega (arith, enough, full)) c.index_mut-block.ensures.value

pub invariant_of-self : goal.invariant_of-self
invariant_of-self c =
    let s = c.self.inside in
    let w = widths_of s.layout in
    let b = c.index_mut-block.result.now in
    let same = c.thin.ensures.states ∙ ap (states_of w) c.index_mut-block.ensures.value in
    let few = c.self.invariant.few in
    let long = length-set s.blocks.items s.tried c.thin.new.self in
    record {
      pieces = blocks_replaced w c.thin.new.self b c.thin.ensures.block s.blocks.items s.len s.tried c.self.invariant.pieces same;
      few = omega (arith, few, long);
    }

pub returns-then-self : goal.returns-then-self
returns-then-self c =
    let s = c.self.inside in
    let w = widths_of s.layout in
    let b = c.index_mut-block.result.now in
    let same = c.thin.ensures.states ∙ ap (states_of w) c.index_mut-block.ensures.value in
    let states = flat_replaced w c.thin.new.self b c.thin.ensures.block s.blocks.items s.tried same in
    let long = length-set s.blocks.items s.tried c.thin.new.self in
    ap₂ (λ (ss : List State) (n : ℕ). (let v : BlocksView = record { widths = w; states = ss; room = CHUNK * n - s.len } in v)) states long ∙ c.self.view_is
