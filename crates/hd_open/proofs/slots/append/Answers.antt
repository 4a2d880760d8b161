use Rattle.std.proofs.Common.{◌+◌, ◌/◌, refl, arith}
use Rattle.hd_open.proofs.Counting.{fits_more, all_fits, counted_push}
use Rattle.hd_open.proofs.Marking.{marks_push}
use Rattle.hd_open.proofs.slots.append.Goals as goal

pub raise_parts-requires-clause-fits : goal.raise_parts-requires-clause-fits
raise_parts-requires-clause-fits g c = fits_more c.args.slots.now.items c.args.counts.now (c.len-arrival.result / 64) c.requires.counted (omega arith)

pub overflow_add-counts : goal.overflow_add-counts
overflow_add-counts g c = let few = all_fits c.args.slots.now.items c.args.counts.now c.requires.counted in omega arith

pub returns-clause-marked : goal.returns-clause-marked
returns-clause-marked g c =
    marks_push c.args.slots.now.items c.push_reserved.new.self.items c.args.counts.now.marks.items c.mark.new.words.items c.len-arrival.result c.args.node
    c.push_reserved.ensures.items (omega arith) c.requires.marked c.requires.words c.mark.ensures.here c.mark.ensures.others c.mark.ensures.len

pub returns-clause-counted : goal.returns-clause-counted
returns-clause-counted g c =
    counted_push c.args.slots.now.items c.push_reserved.new.self.items c.args.node c.args.counts.now
    (record { marks = c.mark.new.words; parts = c.raise_parts.new.parts; all = c.args.counts.now.all + 1 }) c.len-arrival.result
    c.push_reserved.ensures.items (omega arith) c.requires.counted c.requires.room c.raise_parts.ensures refl
