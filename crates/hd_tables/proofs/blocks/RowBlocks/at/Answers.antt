use Rattle.std.proofs.Common.{◌<◌, ◌/◌, ◌%◌, ◌∙◌, ℕ, length, slice_get, sym, ap, subst}
use Rattle.hd_tables.specs.declared.chunks.TheConstants.{CHUNK}
use Rattle.hd_tables.proofs.Filling.{chunk_within, item_within}
use Rattle.hd_tables.specs.declared.block.Block.{Block}
use Rattle.hd_tables.specs.Blocks.{BlocksView, states_of, widths_of, IsBlock}
use Rattle.hd_tables.proofs.BlockRows.{place_among, state_read}
use Rattle.hd_tables.proofs.blocks.RowBlocks.at.Goals as goal

pub index-requires : goal.index-requires
index-requires c =
    let s = c.self.inside in
    let w = widths_of s.layout in
    let all = c.self.invariant in
    let lt = place_among w s.len s.blocks.items _ c.args.place _ c.self.view_is all c.requires in
    subst (λ (k : ℕ). c.args.place / CHUNK < k) (sym s.blocks.ok.0) (chunk_within (states_of w) (IsBlock w) s.blocks.items s.len c.args.place all.pieces lt)

pub at-requires-clause-block : goal.at-requires-clause-block
at-requires-clause-block c =
    let s = c.self.inside in
    let w = widths_of s.layout in
    let all = c.self.invariant in
    let lt = place_among w s.len s.blocks.items _ c.args.place _ c.self.view_is all c.requires in
    subst (IsBlock w) (sym c.index.ensures) (item_within (states_of w) (IsBlock w) s.blocks.items s.len c.args.place c.index.result.now all.pieces lt).2

pub at-requires-clause-place : goal.at-requires-clause-place
at-requires-clause-place c =
    let s = c.self.inside in
    let w = widths_of s.layout in
    let all = c.self.invariant in
    let lt = place_among w s.len s.blocks.items _ c.args.place _ c.self.view_is all c.requires in
    subst (λ (b : Block). c.args.place % CHUNK < length (states_of w b)) (sym c.index.ensures)
    (item_within (states_of w) (IsBlock w) s.blocks.items s.len c.args.place c.index.result.now all.pieces lt).1

pub returns : goal.returns
returns c =
    let s = c.self.inside in
    let w = widths_of s.layout in
    let all = c.self.invariant in
    let lt = place_among w s.len s.blocks.items _ c.args.place _ c.self.view_is all c.requires in
    ap (λ (v : BlocksView). slice_get v.states c.args.place) (sym c.self.view_is)
    ∙ (state_read w s.len c.args.place s.blocks.items c.index.result.now all lt c.index.ensures ∙ c.at.ensures)
