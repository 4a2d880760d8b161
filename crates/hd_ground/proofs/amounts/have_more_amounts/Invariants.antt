use Rattle.std.proofs.Common.{take}
use Rattle.hd_grounding.specs.Counted.{HaveFewAmounts}
use Rattle.hd_ground.proofs.amounts.have_more_amounts.Given as goal

abbrev pub invariant-loop-instance : goal.invariant-loop-instance
invariant-loop-instance l = HaveFewAmounts l.task (take l.instance-index l.instances)
