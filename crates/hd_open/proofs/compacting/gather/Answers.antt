use Rattle.std.proofs.Common.{◌∙◌, sym, arith}
use Rattle.std.proofs.lemmas.List.Filters.{FiltersInPlace-more_swap, FiltersInPlace-more_no}
use Rattle.hd_open.proofs.Packing.{none_of, empty_swapped, empty_more}
use Rattle.hd_open.proofs.compacting.gather.Goals as goal

pub loop-from-preserved : goal.loop-from-preserved
loop-from-preserved g c =
    elim c.if-is_some.branch [
      | goal.then-is_some w ↦ rw (w.slots-is, w.to-is) (
        FiltersInPlace-more_swap c.loop-from.invariant.0 (omega arith) (sym c.is_some.ensures ∙ w.if-is_some.true) c.index.ensures w.swap.ensures.by_index,
        empty_swapped c.loop-from.slots.items w.swap.new.self.items c.loop-from.to c.loop-from.from w.swap.ensures.by_index
            c.loop-from.invariant.0.behind c.loop-from.invariant.1,
      )
      | goal.else-is_some w ↦ rw (w.slots-is, w.to-is) (
        FiltersInPlace-more_no c.loop-from.invariant.0 (omega arith) (sym c.is_some.ensures ∙ w.if-is_some.false) c.index.ensures,
        empty_more c.loop-from.slots.items c.loop-from.to c.loop-from.from c.index.result.now c.index.ensures (omega arith)
            (none_of c.index.result.now (sym c.is_some.ensures ∙ w.if-is_some.false)) c.loop-from.invariant.1,
      )
    ]
