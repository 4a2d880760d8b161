use Rattle.std.proofs.Common.{◌≡◌, ◌++◌, map, take}
use Rattle.hd_check.specs.Whole.{lifted_object}
use Rattle.hd_check.proofs.checking.objects_of.Given as goal

abbrev pub invariant-loop-item : goal.invariant-loop-item
invariant-loop-item l = l.found.items ≡ l.fn.found.items ++ map (lifted_object l.types) (take l.item-index l.declared)
