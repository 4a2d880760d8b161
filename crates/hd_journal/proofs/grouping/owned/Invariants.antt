use Rattle.std.proofs.Common.{◌≡◌, ◌<◌, ◌^◌, ◌++◌, length}
use Rattle.std.specs.List.{AllByRecursion}
use Rattle.hd_journal.proofs.grouping.owned.Given as goal

abbrev pub invariant-loop-rest : goal.invariant-loop-rest
invariant-loop-rest l = record {
  kids : l.copied.items ++ l.rest ≡ l.fn.kids;
  actions : AllByRecursion (λ kid. kid.action < 2 ^ 32) l.rest → AllByRecursion (λ kid. kid.action < 2 ^ 32) l.fn.kids;
}

abbrev pub decreases-loop-rest : goal.decreases-loop-rest
decreases-loop-rest l = length l.rest
