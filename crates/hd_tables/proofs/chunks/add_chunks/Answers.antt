use Rattle.std.proofs.Common.{◌∙◌, [], ◌∷◌, List, length, sym, ap, subst, arith, length-append}
use Rattle.std.specs.Prelude.{Vec}
use Rattle.std.specs.declared.alloc.Global.{Global}
use Rattle.hd_tables.specs.Chunks.{items_in, AreChunks, items_of, IsLarge}
use Rattle.hd_tables.proofs.Filling.{items_more, chunks_more}
use Rattle.hd_tables.proofs.chunks.add_chunks.Goals as goal

pub loop-alloc-preserved : goal.loop-alloc-preserved
loop-alloc-preserved g c =
    let cs = c.loop-alloc.chunks.items in
    let w = c.in_ok-chunk.chunk in
    let i = c.loop-alloc.invariant in
    let pushed = c.in_ok-push.ensures.items in
    let long = length-append cs (w ∷ []) in
    let more = ap length pushed in
    let kept = i.kept in
    let few = i.few in
    let need = c.requires in
    let count = c.loop-alloc.chunks.ok.0 in
    record {
      items =
          ap (λ (xs : List (Vec g.row.T.Denot Global)). items_in xs) pushed
          ∙ (items_more (λ c. items_of c) (λ c. IsLarge c) cs w c.in_ok-chunk.ensures.items ∙ i.items);
      chunks = λ n h.
          subst (λ (xs : List (Vec g.row.T.Denot Global)). AreChunks n xs) (sym pushed)
          (chunks_more (λ c. items_of c) (λ c. IsLarge c) cs n w c.in_ok-chunk.ensures.items c.in_ok-chunk.ensures.capacity (i.chunks n h));
      kept = omega (arith, more, long, kept);
      few = λ fit. omega (arith, more, long, count, need, fit);
    }
