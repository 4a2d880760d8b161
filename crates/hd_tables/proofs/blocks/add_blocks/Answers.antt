use Rattle.std.proofs.Common.{◌∙◌, [], ◌∷◌, List, length, sym, ap, subst, arith, length-append}
use Rattle.std.specs.Prelude.{flat_map}
use Rattle.hd_tables.specs.Chunks.{ArePieces}
use Rattle.hd_tables.proofs.Filling.{items_more, chunks_more}
use Rattle.hd_tables.specs.declared.block.Block.{Block}
use Rattle.hd_tables.specs.Blocks.{states_of, widths_of, IsBlock}
use Rattle.hd_tables.proofs.blocks.add_blocks.Goals as goal

pub loop-alloc-preserved : goal.loop-alloc-preserved
loop-alloc-preserved c =
    let w = widths_of c.args.layout in
    let bs = c.loop-alloc.blocks.items in
    let b = c.in_ok-block.block in
    let i = c.loop-alloc.invariant in
    let pushed = c.in_ok-push.ensures.items in
    let long = length-append bs (b ∷ []) in
    let more = ap length pushed in
    let kept = i.kept in
    let few = i.few in
    let need = c.requires in
    let count = c.loop-alloc.blocks.ok.0 in
    record {
      states =
          ap (λ (xs : List Block). flat_map (states_of w) xs) pushed
          ∙ (items_more (states_of w) (IsBlock w) bs b c.in_ok-block.ensures.states ∙ i.states);
      pieces = λ n h.
          subst (λ (xs : List Block). ArePieces (states_of w) (IsBlock w) n xs) (sym pushed)
          (chunks_more (states_of w) (IsBlock w) bs n b c.in_ok-block.ensures.states c.in_ok-block.ensures.block (i.pieces n h));
      kept = omega (arith, more, long, kept);
      few = λ fit. omega (arith, more, long, count, need, fit);
    }
