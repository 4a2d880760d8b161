use Rattle.std.proofs.Common.{◌-◌, refl, sym, ◌∙◌, subst, arith, slice_set}
use Rattle.hd_lifted.proofs.Walks.{IsWalk, walk_step, walk_falls, walk_ends}
use Rattle.hd_lifted.proofs.hierarchy.walk.Goals as goal

pub loop-stamps-smaller : goal.loop-stamps-smaller
loop-stamps-smaller c =
    let new = c.loop-stamps-test.ensures.0 refl in
    walk_falls c.loop-stamps.stamps c.args.start c.loop-stamps.kind new.0 new.1 new.2 c.requires.start

pub loop-stamps-preserved : goal.loop-stamps-preserved
loop-stamps-preserved c =
    let new = c.loop-stamps-test.ensures.0 refl in
    subst (IsWalk c.args.parents.now c.args.stamps.now (slice_set c.loop-stamps.stamps (c.loop-stamps.kind - 1) c.args.start) c.args.start)
    (sym c.entry_of-kind.ensures)
    (walk_step c.args.parents.now c.args.stamps.now c.loop-stamps.stamps c.args.start c.loop-stamps.kind c.loop-stamps.invariant new.0 new.1 new.2 c.requires.start)

pub returns-else-entry_of-start-clause-ends : goal.returns-else-entry_of-start-clause-ends
returns-else-entry_of-start-clause-ends c _ =
    walk_ends c.args.parents.now c.args.stamps.now c.loop-stamps.stamps c.args.start c.loop-stamps.kind c.loop-stamps.invariant c.requires.len
    (λ up within z. (let no = c.loop-stamps-test.ensures.1 (up, omega arith, z) in cc))
    (λ e. c.if-entry_of-start.false (c.entry_of.ensures ∙ e))
