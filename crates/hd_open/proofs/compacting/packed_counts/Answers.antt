use Rattle.hd_open.proofs.Packing.{marks_packed, counts_packed}
use Rattle.hd_open.proofs.compacting.packed_counts.Goals as goal

pub returns-clause-marked : goal.returns-clause-marked
returns-clause-marked g c =
    marks_packed c.args.slots.now c.in_ok-marks.marks.items c.args.count c.requires c.in_ok-marks.ensures.marked c.in_ok-marks.ensures.unmarked
    c.in_ok-marks.ensures.covering

pub returns-clause-counted : goal.returns-clause-counted
returns-clause-counted g c =
    counts_packed c.args.slots.now (record { marks = c.in_ok-marks.marks; parts = c.in_ok-parts.parts; all = c.args.count }) c.requires
    c.in_ok-parts.ensures.parts c.in_ok-parts.ensures.covering
