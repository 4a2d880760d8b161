use Rattle.std.proofs.Common.{◌≡◌, ◌++◌, length, FitsSigned}
use Rattle.std.specs.Int.{w64}
use Rattle.std.specs.List.{flat_map, AllByRecursion}
use Rattle.hd_pack.specs.Packing.{value_bytes}
use Rattle.hd_pack.proofs.values.push_values.Given as goal

abbrev pub invariant-loop-rest : goal.invariant-loop-rest
invariant-loop-rest l = record {
  bytes : l.bytes.items ++ flat_map value_bytes l.rest ≡ l.fn.bytes.items ++ flat_map value_bytes l.values;
  fit : AllByRecursion (FitsSigned w64) l.rest → AllByRecursion (FitsSigned w64) l.values;
}

abbrev pub decreases-loop-rest : goal.decreases-loop-rest
decreases-loop-rest l = length l.rest
