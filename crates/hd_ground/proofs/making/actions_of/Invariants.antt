use Rattle.std.proofs.Common.{take}
use Rattle.std.specs.List.{AllZip}
use Rattle.hd_grounding.specs.Grounding.{IsActionOf}
use Rattle.hd_ground.proofs.making.actions_of.Given as goal

abbrev pub invariant-loop-instance : goal.invariant-loop-instance
invariant-loop-instance l = AllZip (IsActionOf l.lookups l.atoms l.fluents) (take l.instance-index l.instances) l.actions.items
