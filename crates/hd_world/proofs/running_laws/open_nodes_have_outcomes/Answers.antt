use Rattle.hd_world.proofs.Outcomes.{has_outcome, expands}
use Rattle.hd_world.proofs.running_laws.open_nodes_have_outcomes.Goals as goal

pub returns : goal.returns
returns c = record {
  outcomes = λ t r k place s p x at there. has_outcome t r x k place s p at there;
  expands = λ t r k place x. expands t r x k place;
}
