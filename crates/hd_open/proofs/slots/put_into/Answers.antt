use Rattle.std.proofs.Common.{Some, ◌+◌, refl, arith}
use Rattle.hd_open.proofs.Counting.{fits_back, all_fits_back, counted_back}
use Rattle.hd_open.proofs.Marking.{marks_set}
use Rattle.hd_open.proofs.slots.put_into.Goals as goal

pub raise_parts-requires-clause-fits : goal.raise_parts-requires-clause-fits
raise_parts-requires-clause-fits g c = fits_back c.args.slots.now.items c.args.counts.now c.args.arrival c.requires.counted c.requires.empty (omega arith)

pub overflow_add-counts : goal.overflow_add-counts
overflow_add-counts g c =
    let fewer = all_fits_back c.args.slots.now.items c.args.counts.now c.args.arrival c.requires.counted c.requires.empty in omega arith

pub returns-clause-counted : goal.returns-clause-counted
returns-clause-counted g c =
    counted_back c.args.slots.now.items c.args.node c.args.counts.now (record { marks = c.mark.new.words; parts = c.raise_parts.new.parts; all = c.args.counts.now.all + 1 })
    c.args.arrival c.requires.empty c.requires.counted c.raise_parts.ensures refl

pub returns-clause-marked : goal.returns-clause-marked
returns-clause-marked g c =
    marks_set c.args.slots.now.items c.args.counts.now.marks.items c.mark.new.words.items c.args.arrival (Some c.args.node) c.requires.marked
    c.requires.within c.mark.ensures.here c.mark.ensures.others c.mark.ensures.len
