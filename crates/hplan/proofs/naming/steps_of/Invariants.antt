use Rattle.std.proofs.Common.{◌≡◌, map, take}
use Rattle.hd_texts.specs.Printing.{numbered_step}
use Rattle.hplan.proofs.naming.steps_of.Given as goal

abbrev pub invariant-loop-action : goal.invariant-loop-action
invariant-loop-action l = l.steps.items ≡ map (numbered_step l.task) (map (λ a. a.0) (take l.action-index l.action-items))
