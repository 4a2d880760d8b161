use Rattle.std.proofs.Common.{◌≡◌, map, take}
use Rattle.hd_check.specs.Whole.{lifted_signature}
use Rattle.hd_check.proofs.checking.signatures_in.Given as goal

abbrev pub invariant-loop-item : goal.invariant-loop-item
invariant-loop-item l = l.signatures.items ≡ map (lifted_signature l.types) (take l.item-index l.declared)
