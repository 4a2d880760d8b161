use Rattle.std.proofs.Common.{◌≡◌, ◌++◌, flat_map, string_bytes}
use Rattle.hd_task.specs.Effects.{numbers_below}
use Rattle.hplan.specs.TaskText.{numbered_line}
use Rattle.hplan.proofs.text.push_actions.Given as goal

abbrev pub invariant-loop-action : goal.invariant-loop-action
invariant-loop-action l = string_bytes l.text ≡ string_bytes l.initial.text ++ flat_map (numbered_line l.task) (numbers_below l.action)
