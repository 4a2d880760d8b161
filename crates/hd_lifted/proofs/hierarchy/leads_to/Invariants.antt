use Rattle.hd_lifted.specs.Types.{IsSubtype}
use Rattle.hd_lifted.specs.Jumps.{depth_in}
use Rattle.hd_lifted.proofs.hierarchy.leads_to.Given as goal

-- what is above the type so far is above the first one, and the other way round
abbrev pub invariant-loop-depths : goal.invariant-loop-depths
invariant-loop-depths l = record {
  down : IsSubtype l.parents l.kind l.upper → IsSubtype l.parents l.lower l.upper;
  up : IsSubtype l.parents l.lower l.upper → IsSubtype l.parents l.kind l.upper;
}

abbrev pub decreases-loop-depths : goal.decreases-loop-depths
decreases-loop-depths l = depth_in l.parents l.kind
