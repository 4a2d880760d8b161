use Rattle.hd_node.proofs.Keys.{same_when, different_when}
use Rattle.hd_node.proofs.hashed.HashedPartialEq.eq.Goals as goal

pub returns-then-self-other : goal.returns-then-self-other
returns-then-self-other c =
    same_when _ _ _ _ _ _ _ c.self.view_is c.other.view_is c.self.invariant c.other.invariant c.if-self-other.true c.eq.ensures.same

pub returns-else-self-other : goal.returns-else-self-other
returns-else-self-other c =
    different_when _ _ _ _ _ _ c.self.view_is c.other.view_is c.self.invariant c.other.invariant c.if-self-other.false
