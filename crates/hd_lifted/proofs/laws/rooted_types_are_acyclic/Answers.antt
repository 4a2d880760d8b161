use Rattle.hd_lifted.proofs.Types.{acyclic-from_rooted}
use Rattle.hd_lifted.proofs.laws.rooted_types_are_acyclic.Goals as goal

pub returns : goal.returns
returns c = acyclic-from_rooted
