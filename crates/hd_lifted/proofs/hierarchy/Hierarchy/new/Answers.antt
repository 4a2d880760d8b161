use Rattle.std.proofs.Common.{MatchOption, subst}
use Rattle.hd_lifted.specs.Types.{IsOnCycle, IsRooted}
use Rattle.hd_lifted.proofs.Types.{acyclic-from_rooted}
use Rattle.hd_lifted.proofs.hierarchy.Hierarchy.new.Goals as goal

pub returns-in_ok-shortcuts-in-None-clause-acyclic : goal.returns-in_ok-shortcuts-in-None-clause-acyclic
returns-in_ok-shortcuts-in-None-clause-acyclic c =
    let told = subst (λ o. MatchOption o (IsRooted c.as_slice.result.now) (IsOnCycle c.as_slice.result.now)) c.in-None.is c.in_ok-on_cycle.ensures in
    acyclic-from_rooted c.args.parents.items (subst IsRooted c.as_slice.ensures.value told)
