-- Where an action leads from an entry, by a draft's answer.
use Rattle.std.proofs.Common.{◌≡◌, ℕ, Some, sym}
use Rattle.hd_task.specs.declared.state.State.{State}
use Rattle.hd_task.specs.declared.task.Task.{Task}
use Rattle.hd_task.specs.Plans.{IsStateOf, Node, node, step_by}
use Rattle.hd_task.specs.Stepping.{step_at}
use Rattle.hd_pack.specs.Leading.{led_of}
use Rattle.hd_zobrist.specs.Hash.{state_hash}
use Rattle.hd_node.proofs.Leading.{applies_by_next}
use Rattle.hd_tables.specs.Drafts.{IsLedTo}

pub led_there : (t : Task) (r : Node) (a : ℕ) (s : State) (cost : ℕ) → IsStateOf t r.state → IsLedTo (led_of (step_at t r a)) (Some cost) s → step_by t r a ≡ Some (node s cost)
led_there t r a s cost of to = (applies_by_next t r a s (state_hash s) cost of (sym to)).leads
