use Rattle.std.proofs.Common.{Some, None, ◌-◌, set, sym, ap, ◌∙◌, subst, arith}
use Rattle.std.proofs.lemmas.Option.{none-some, get_or_from_slice_get}
use Rattle.hd_open.specs.Counts.{AreCounts}
use Rattle.hd_open.proofs.Counting.{some_counted, some_in_all, counted_left}
use Rattle.hd_open.specs.Marks.{AreMarks}
use Rattle.hd_open.proofs.Marking.{marks_set}
use Rattle.hd_open.proofs.slots.take_from.Goals as goal

pub lower_parts-requires-clause-some : goal.lower_parts-requires-clause-some
lower_parts-requires-clause-some g c =
    some_counted c.args.slots.now.items c.args.counts.now c.args.arrival c.requires.filled.0 c.requires.counted c.requires.filled.1

pub overflow_sub-counts : goal.overflow_sub-counts
overflow_sub-counts g c =
    let some_there = some_in_all c.args.slots.now.items c.args.counts.now c.args.arrival c.requires.filled.0 c.requires.counted c.requires.filled.1 in omega arith

pub unreachable-requires : goal.unreachable-requires
unreachable-requires g c =
    let at = get_or_from_slice_get c.args.slots.now.items c.args.arrival (Some c.requires.filled.0) c.index_mut.result.now c.requires.filled.1 in
    none-some c.requires.filled.0 (c.in-None.ensures.value ∙ (c.index_mut.ensures.value ∙ at))

pub returns-clause-node : goal.returns-clause-node
returns-clause-node g c =
    let at = get_or_from_slice_get c.args.slots.now.items c.args.arrival (Some c.requires.filled.0) c.index_mut.result.now c.requires.filled.1 in
    c.requires.filled.1 ∙ ap Some (sym (c.in-Some.ensures.value ∙ (c.index_mut.ensures.value ∙ at)))

pub returns-clause-counted : goal.returns-clause-counted
returns-clause-counted g c =
    subst (λ o. AreCounts (set c.args.slots.now.items c.args.arrival o) (record { marks = c.unmark.new.words; parts = c.lower_parts.new.parts; all = c.args.counts.now.all - 1 })) (sym c.take.ensures.after)
    (counted_left c.args.slots.now.items c.requires.filled.0 c.args.counts.now (record { marks = c.unmark.new.words; parts = c.lower_parts.new.parts; all = c.args.counts.now.all - 1 })
    c.args.arrival c.requires.filled.1 c.requires.counted c.lower_parts.ensures
    (let some_there = some_in_all c.args.slots.now.items c.args.counts.now c.args.arrival c.requires.filled.0 c.requires.counted c.requires.filled.1 in omega arith))

pub returns-clause-marked : goal.returns-clause-marked
returns-clause-marked g c =
    subst (λ o. AreMarks (set c.args.slots.now.items c.args.arrival o) c.unmark.new.words.items) (sym c.take.ensures.after)
    (marks_set c.args.slots.now.items c.args.counts.now.marks.items c.unmark.new.words.items c.args.arrival None c.requires.marked
    c.requires.within c.unmark.ensures.here c.unmark.ensures.others c.unmark.ensures.len)
