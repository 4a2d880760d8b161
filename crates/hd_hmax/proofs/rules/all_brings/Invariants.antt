use Rattle.std.proofs.Common.{◌≡◌, map, take}
use Rattle.hd_hmax.specs.Rules.{brings_of}
use Rattle.hd_hmax.proofs.rules.all_brings.Given as goal

-- the rows of the actions so far
abbrev pub invariant-loop-action : goal.invariant-loop-action
invariant-loop-action l = l.rows ≡ map (brings_of l.atoms l.askers) (take l.action-index l.actions)
