use Rattle.std.proofs.Common.{Some}
use Rattle.hd_lifted.proofs.Walks.{visited_more, cycle_lesser, still_found}
use Rattle.hd_lifted.proofs.hierarchy.visit.Goals as goal

pub returns-in-Some : goal.returns-in-Some
returns-in-Some c =
    let parents = c.args.parents.now in
    visited_more parents c.args.stamps.now c.walk.new.stamps c.args.start c.args.found (Some c.lesser.result)
    c.requires.before c.walk.auto.stamps c.walk.ensures.stamps c.requires.start.0 (c.walk.ensures.visited c.requires.start.1)
    (cycle_lesser parents c.args.stamps.now c.args.found c.least_of_cycle.result c.lesser.result c.requires.before.cycles c.lesser.ensures c.least_of_cycle.ensures)

pub returns-in-None : goal.returns-in-None
returns-in-None c =
    let parents = c.args.parents.now in
    visited_more parents c.args.stamps.now c.walk.new.stamps c.args.start c.args.found c.args.found
    c.requires.before c.walk.auto.stamps c.walk.ensures.stamps c.requires.start.0 (c.walk.ensures.visited c.requires.start.1)
    (still_found parents c.args.stamps.now c.walk.new.stamps c.args.found (c.walk.ensures.ends c.in-None.is) c.requires.before.cycles)
