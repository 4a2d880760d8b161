use Rattle.std.proofs.Common.{◌≡◌, length}
use Rattle.hd_successors.specs.Chains.{SkipsNone}
use Rattle.hd_successors.proofs.watches.headed_of.Given as goal

abbrev pub invariant-loop-place : goal.invariant-loop-place
invariant-loop-place l = record {
  skips : SkipsNone l.last l.headed.items;
  whole : length l.headed.items ≡ l.place;
}
