use Rattle.std.proofs.Common.{◌≡◌, ◌++◌, length}
use Rattle.std.specs.List.{flat_map, AllByRecursion}
use Rattle.hd_image.specs.Image.{HasNumber, HasBytes, entry_bytes}
use Rattle.hd_image.proofs.group.push_entries.Given as goal

abbrev pub invariant-loop-rest : goal.invariant-loop-rest
invariant-loop-rest l = record {
  bytes : l.bytes.items ++ flat_map (entry_bytes l.version) l.rest ≡ l.fn.bytes.items ++ flat_map (entry_bytes l.version) l.kids;
  held : AllByRecursion (HasBytes l.version) l.rest → AllByRecursion (HasBytes l.version) l.kids;
  parents : AllByRecursion (λ kid. HasNumber l.version kid.parent) l.rest;
}

abbrev pub decreases-loop-rest : goal.decreases-loop-rest
decreases-loop-rest l = length l.rest
