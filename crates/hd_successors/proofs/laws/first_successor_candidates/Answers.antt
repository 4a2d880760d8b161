use Rattle.hd_successors.proofs.Judging.{first_candidate, no_candidate}
use Rattle.hd_successors.proofs.laws.first_successor_candidates.Goals as goal

pub returns : goal.returns
returns c = record {
  some = first_candidate;
  none = no_candidate;
}
