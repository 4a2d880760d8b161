use Rattle.std.proofs.Common.{◌≡◌, take}
use Rattle.hd_names.specs.Names.{types_of}
use Rattle.hd_names.proofs.types.numbers_of_types.Given as goal

abbrev pub invariant-loop-item : goal.invariant-loop-item
invariant-loop-item l = l.numbers.items ≡ types_of l.types (take l.item-index l.declared)
