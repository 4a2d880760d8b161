use Rattle.hd_successors.proofs.Judging.{candidate_where_held, none_applies, none_departs}
use Rattle.hd_successors.proofs.laws.candidates_suffice.Goals as goal

pub returns : goal.returns
returns c = record {
  holding = candidate_where_held;
  applies = none_applies;
  departs = none_departs;
}
