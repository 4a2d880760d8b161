-- How a successor is settled. (Our own.)
use Rattle.hd_task.specs.declared.plan.Kid.{Kid}
use Rattle.hd_node.specs.declared.batch.Outcome.{Outcome}
use Rattle.hd_node.specs.declared.batch.Outcome.TheVariants.{Expanded, Duplicate, Bounded}

-- the successor that an outcome settles
abbrev pub kid_of : Outcome → Kid
kid_of (Expanded e) = e.kid
kid_of (Duplicate k by) = k
kid_of (Bounded k h) = k
