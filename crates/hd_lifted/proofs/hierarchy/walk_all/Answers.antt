use Rattle.std.proofs.Common.{◌≡◌, ◌+◌, length, None, sym, subst, arith}
use Rattle.hd_lifted.specs.Walks.{AreVisited}
use Rattle.hd_lifted.proofs.Walks.{none_visited, all_told}
use Rattle.hd_lifted.proofs.hierarchy.walk_all.Goals as goal

pub loop-before-init : goal.loop-before-init
loop-before-init c = subst (λ stamps. AreVisited c.args.parents.now stamps 1 None) (sym c.requires) (none_visited c.args.parents.now)

pub returns : goal.returns
returns c =
    let all : c.loop-before.before ≡ length c.args.parents.now = omega arith in
    all_told c.args.parents.now c.loop-before.stamps c.loop-before.found
    (subst (λ n. AreVisited c.args.parents.now c.loop-before.stamps (n + 1) c.loop-before.found) all c.loop-before.invariant)
