use Rattle.std.proofs.Common.{sym, subst}
use Rattle.hd_lifted.specs.Types.{IsOnCycle}
use Rattle.hd_lifted.proofs.Types.{cycle_parent, cycle_min}
use Rattle.hd_lifted.proofs.hierarchy.least_of_cycle.Goals as goal

pub loop-init : goal.loop-init
loop-init c = record {
  least = c.requires;
  kind = subst (IsOnCycle c.args.parents.now) (sym c.entry_of-kind.ensures) (cycle_parent c.args.parents.now c.args.first c.requires);
}

pub loop-preserved : goal.loop-preserved
loop-preserved c = record {
  least = cycle_min c.args.parents.now c.loop.least c.loop.kind c.min-least.result c.min-least.ensures c.loop.invariant.least c.loop.invariant.kind;
  kind = subst (IsOnCycle c.args.parents.now) (sym c.entry_of-kind-in-loop.ensures) (cycle_parent c.args.parents.now c.loop.kind c.loop.invariant.kind);
}
